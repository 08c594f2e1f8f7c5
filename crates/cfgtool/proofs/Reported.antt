-- What is printed for a production.
use Rattle.std.proofs.Common.{◌≡◌, ℕ, List, ◌++◌, slice_get, Option, Some, None, option_map, Result, Ok, Err, OnOk, is_ok, if◌then◌else◌, codes, append_assoc, ap, ◌∙◌}
use Rattle.std.specs.Fmt.{decimal}
use Rattle.cfgrammar.specs.Numbered.{Numbered}
use Rattle.cfgrammar.specs.Accessors.{production_part, production_text}
use Rattle.cfgtool.specs.ReportLines.{production_line}
use Rattle.cfgtool.specs.TokenSets.{Adds}

-- the line of a production
line_shown : (g : Numbered) (n : ℕ) (text : List ℕ) → production_part (production_text g) g n ≡ Some text
    → production_part (λ production. production_line g (n, production)) g n ≡ Some (decimal n ++ (codes " " ++ (text ++ codes "\n")))
line_shown g n text shown = lined (production_text g) n (slice_get g.productions n) text shown
  where
    lined : {A : Type 0} (text_of : A → List ℕ) (n : ℕ) (o : Option A) (text : List ℕ) → option_map text_of o ≡ Some text
        → option_map (λ x. decimal n ++ (codes " " ++ (text_of x ++ codes "\n"))) o ≡ Some (decimal n ++ (codes " " ++ (text ++ codes "\n")))
    lined text_of n None text e = let no : None ≡ Some text = e in cc
    lined text_of n (Some x) text e = let same : Some (text_of x) ≡ Some text = e in cc

-- the line is added if its end is, after its parts
pub line_added : {T E : Type 0} (r : Result T E) (g : Numbered) (n : ℕ) (text old before new : List ℕ) → production_part (production_text g) g n ≡ Some text
    → before ≡ ((old ++ decimal n) ++ codes " ") ++ text → new ≡ (if is_ok r then before ++ codes "\n" else before)
    → OnOk r (Adds (production_part (λ production. production_line g (n, production)) g n) old new)
line_added (Ok done) g n text old before new shown parts ended = (
  _,
  line_shown g n text shown,
  ended ∙ ap (λ t. t ++ codes "\n") parts
      ∙ append_assoc ((old ++ decimal n) ++ codes " ") text (codes "\n") ∙ append_assoc (old ++ decimal n) (codes " ") (text ++ codes "\n")
      ∙ append_assoc old (decimal n) (codes " " ++ (text ++ codes "\n")),
)
line_added (Err e) g n text old before new shown parts ended = tt
