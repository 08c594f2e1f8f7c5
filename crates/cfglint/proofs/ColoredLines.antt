-- A severity is shown as it is, and in what is printed it can be replaced.
use Rattle.std.proofs.Common.{◌≡◌, ℕ, ◌+◌, Bool, true, false, if◌then◌else◌, List, [], ◌∷◌, ◌++◌, codes, length, refl, ap, ◌∙◌, append-nil, append_assoc, length-append, Result, Ok, Err, OnOk}
use Rattle.std.proofs.lemmas.Str.{chars-append, chars-nil, encodes-append}
use Rattle.std.proofs.Math.Seq.{drop-append-add, drop-append_seam, take-append_seam}
use Rattle.std.proofs.Math.Utf8.{encode, encodes}
use Rattle.std.proofs.lemmas.List.Concat.{flat_map-append}
use Rattle.std.specs.Result.{is_ok}
use Rattle.std.specs.List.{flat_map, replace_range}
use Rattle.std.specs.Str.{IsUtf8, chars}
use Rattle.cfgrammar.specs.Span.{Span}
use Rattle.cfgrammar.specs.SpansKind.{SpansKind}
use Rattle.cfgrammar.specs.SpansKind.TheVariants.{Error}
use Rattle.cfgrammar.specs.ColumnUnit.{ColumnUnit}
use Rattle.cfgrammar.specs.Render.{excerpt, heading, is_offset, message_line, note_line, rendered_in, reported, reported_also}
use Rattle.cfgrammar.specs.Visible.{shown_as, visible}
use Rattle.cfglint.specs.Severities.{printed, severity}

-- what a line says after its place: the severity, and a space
abbrev pub said : Bool → List ℕ → List ℕ
said is_error words = severity false is_error ++ (codes " " ++ words)

shown_text : (first words : List ℕ) → IsUtf8 first → encodes (flat_map shown_as (chars first)) ≡ first → visible (first ++ words) ≡ first ++ visible words
unfolding visible
shown_text first words utf8 itself =
    ap (λ all. encodes (flat_map shown_as all)) (chars-append first words utf8)
    ∙ (ap encodes (flat_map-append shown_as (chars first) (chars words))
    ∙ (encodes-append (flat_map shown_as (chars first)) (flat_map shown_as (chars words))
    ∙ ap (λ shown. shown ++ visible words) itself))

shown_said : (is_error : Bool) (words : List ℕ) → visible (said is_error words) ≡ said is_error (visible words)
unfolding shown_as encode chars
shown_said true words = shown_text (codes "error: ") words (codes "error: ", (refl, refl)) refl
shown_said false words = shown_text (codes "warning: ") words (codes "warning: ", (refl, refl)) refl

message_said : (is_error : Bool) (words : List ℕ) → message_line (said is_error words) ≡ severity false is_error ++ (codes " " ++ message_line words)
message_said is_error words = ap (λ shown. shown ++ codes "\n") (shown_said is_error words) ∙ simp append_assoc refl

-- what is rendered is what is printed without colours
pub rendered_said : (unit : ColumnUnit) (name text : List ℕ) (is_error : Bool) (words : List ℕ) (spans : List Span) (kind : SpansKind)
    → rendered_in unit name text (said is_error words) spans kind ≡ printed unit false name text is_error words spans kind
unfolding reported
rendered_said unit name text is_error words [] kind =
    ap (λ line. visible name ++ (codes ": " ++ line)) (message_said is_error words) ∙ simp (append_assoc, append-nil) refl
rendered_said unit name text is_error words (first ∷ others) kind =
    ap (λ line. (heading unit name text first.start ++ (line ++ (if is_offset text first.start then excerpt text first else [])))
    ++ reported_also unit kind name text others) (message_said is_error words) ∙ simp append_assoc refl

-- what comes before a severity, and what comes after it
pub replaced : (before severe rest new : List ℕ) → replace_range (before ++ (severe ++ rest)) (length before) (length before + length severe) new
    ≡ before ++ (new ++ rest)
replaced before severe rest new =
    (λ i. (take-append_seam before (severe ++ rest) i ++ new) ++ (drop-append-add before (severe ++ rest) (length severe) ∙ drop-append_seam severe rest) i)
    ∙ append_assoc before new rest

-- what a text then is to which these bytes are added, if they are
pub pushed : {T E : Type 0} (r : Result T E) (new all old wanted : List ℕ) → new ≡ (if is_ok r then all else old) → all ≡ wanted → OnOk r (new ≡ wanted)
pushed (Ok value) new all old wanted is same = is ∙ same
pushed (Err fault) new all old wanted is same = tt

-- how long a note without words is, and what has no span and says nothing
visible-nil : visible [] ≡ []
unfolding visible
visible-nil = ap (λ all. encodes (flat_map shown_as all)) chars-nil

pub length-empty_note : (unit : ColumnUnit) (name text : List ℕ) (b : ℕ) → length (note_line unit name text [] b) ≡ length (heading unit name text b) + 7
unfolding note_line
length-empty_note unit name text b =
    length-append (heading unit name text b) _ ∙ ap (λ shown. length (heading unit name text b) + length (codes "note: " ++ (shown ++ codes "\n"))) visible-nil

pub length-empty_error : (unit : ColumnUnit) (name text : List ℕ) → length (printed unit false name text true [] [] Error) ≡ length (visible name ++ codes ": ") + 8
length-empty_error unit name text =
    length-append (visible name ++ codes ": ") _ ∙ ap (λ shown. length (visible name ++ codes ": ") + length (codes "error: " ++ ((shown ++ codes "\n") ++ []))) visible-nil
