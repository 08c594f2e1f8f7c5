-- An annotation is one line.
use Rattle.std.proofs.Common.{◌≡◌, ℕ, ◌==◌, true, false, List, [], ◌∷◌, ◌++◌, Option, None, Some, codes, append-nil, append_assoc, get_or, eq-eqb, refl, sym, ◌∙◌, arith}
use Rattle.std.specs.List.{flat_map}
use Rattle.std.specs.Char.{encode_utf8}
use Rattle.std.specs.Fmt.{decimal}
use Rattle.std.specs.Str.{chars}
use Rattle.std.proofs.lemmas.List.{get_or_default}
use Rattle.std.proofs.lemmas.Str.{inside_one}
use Rattle.cfgbase.specs.declared.span.Span.{Span}
use Rattle.cfglines.specs.Lines.{line_number, column}
use Rattle.cfgjson.specs.Annotations.{IsLine, annotation, command, escaped, escaped_in_property, message_text, note_text, place_properties, position_properties, properties, property_text}
use Rattle.cfgjson.specs.Objects.{ShownDiagnostic, is_boundary}
use Rattle.cfgjson.proofs.LineTexts.{OneLine, both, decimal_line, either, fixed}

character_line : (c : ℕ) → (c == 10) ≡ false → OneLine (encode_utf8 c)
character_line c other = record {
  none = λ h. let (k, within, is) = h in
      let byte : get_or (encode_utf8 c) k 0 ≡ 10 = sym (get_or_default (encode_utf8 c) k 10 0 within) ∙ is in
      let same : c ≡ 10 = inside_one c [] (encode_utf8 c) k (sym (append-nil (encode_utf8 c))) within (omega (arith, byte)) ∙ byte in
      absurd (let wrong : false ≡ true = sym other ∙ eq-eqb c 10 same in cc);
}

escaped_line : (c : ℕ) → OneLine (escaped c)
unfolding escaped
escaped_line c = either (c == 37) _ _ (fixed _ refl) (λ _. either (c == 13) _ _ (fixed _ refl)
    (λ _. either (c == 10) _ _ (fixed _ refl) (λ other. character_line c other)))

escaped_in_property_line : (c : ℕ) → OneLine (escaped_in_property c)
unfolding escaped_in_property
escaped_in_property_line c = either (c == 58) _ _ (fixed _ refl) (λ _. either (c == 44) _ _ (fixed _ refl) (λ _. escaped_line c))

each_line : (shown : ℕ → List ℕ) → ((c : ℕ) → OneLine (shown c)) → (all : List ℕ) → OneLine (flat_map shown all)
each_line shown one [] = fixed _ refl
each_line shown one (c ∷ all) = both (shown c) (flat_map shown all) (one c) (each_line shown one all)

position_line : (line_property column_property text : List ℕ) (b : ℕ) → OneLine line_property → OneLine column_property
    → OneLine (position_properties line_property column_property text b)
position_line line_property column_property text b first second = either (is_boundary text b) _ _
    (both line_property _ first (both (decimal (line_number text b)) _ (decimal_line (line_number text b))
    (both column_property _ second (decimal_line (column text b)))))
    (λ _. fixed _ refl)

place_line : (text : List ℕ) (spans : List Span) → OneLine (place_properties text spans)
place_line text [] = fixed _ refl
place_line text (span ∷ spans) = both _ _
    (position_line (codes ",line=") (codes ",col=") text span.start (fixed _ refl) (fixed _ refl))
    (position_line (codes ",endLine=") (codes ",endColumn=") text span.end (fixed _ refl) (fixed _ refl))

properties_line : (name text : List ℕ) (shown : ShownDiagnostic) → OneLine (properties name text shown)
properties_line name text shown = both (codes "file=") _ (fixed _ refl) (both (property_text name) _ (each_line _ escaped_in_property_line (chars name))
    (both (place_properties text shown.spans) _ (place_line text shown.spans) (both (codes ",title=") _ (fixed _ refl) (each_line _ escaped_in_property_line (chars shown.kind)))))

note_line : (hint : Option (List ℕ)) → OneLine (note_text hint)
note_line None = fixed _ refl
note_line (Some hint) = both (codes ": ") _ (fixed _ refl) (each_line _ escaped_line (chars hint))

-- an annotation without the LF at its end
abbrev annotation_text : List ℕ → List ℕ → ShownDiagnostic → List ℕ
annotation_text name text shown = codes "::" ++ (command shown.is_error ++ (codes " " ++ (properties name text shown
    ++ (codes "::" ++ (message_text shown.text ++ note_text shown.hint)))))

pub annotation_is_line : (name text : List ℕ) (shown : ShownDiagnostic) → IsLine (annotation name text shown)
unfolding annotation
annotation_is_line name text shown = record {
  line = annotation_text name text shown;
  is = grind (arith, append_assoc);
  one = (both (codes "::") _ (fixed _ refl) (both (command shown.is_error) _ (either shown.is_error _ _ (fixed _ refl) (λ _. fixed _ refl))
      (both (codes " ") _ (fixed _ refl) (both (properties name text shown) _ (properties_line name text shown)
      (both (codes "::") _ (fixed _ refl) (both (message_text shown.text) _ (each_line _ escaped_line (chars shown.text)) (note_line shown.hint))))))).none;
}
