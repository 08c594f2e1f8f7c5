-- A text may be cut after each part of a blank.
use Rattle.std.proofs.Common.{◌≡◌, ◌||◌, ℕ, ◌<◌, Bool, true, false, cond, not, List, [], ◌∷◌, ◌++◌, drop, Option, Some, None, Result, Ok, Err, codes, refl, sym, subst, ◌∙◌, arith, append_assoc}
use Rattle.std.specs.List.{list_any}
use Rattle.std.proofs.lemmas.Bool.Decides.{nat_tests}
use Rattle.std.proofs.lemmas.Str.{IsUtf8-nil}
use Rattle.constructs.specs.Pieces.{starts}
use Rattle.constructs.proofs.Yields.{EndsIn, TurnPasses, turns_pass}
use Rattle.cfgwords.specs.declared.fault.Fault.{Fault}
use Rattle.cfgwords.specs.declared.fault.FaultKind.{FaultKind}
use Rattle.cfgwords.specs.declared.fault.FaultKind.TheVariants.{ReachedEOL, IncompleteComment}
use Rattle.cfgwords.specs.declared.bytes.ByteClass.TheVariants as bytes
use Rattle.cfgwords.specs.Bytes.{holds}
use Rattle.cfgwords.specs.Text.{fault_at}
use Rattle.cfgwords.specs.Blank.{Prefix, Gap, LineComment, BlockComment, OpenComment, Bare, IsPrefix, part_of, turn_of, Blank}
use Rattle.cfgwords.proofs.Cuts.{IsCut, cut_on, cut_same, cut_byte, cut_before}
use Rattle.cfgwords.proofs.Blanks.{passed}

-- after two ASCII bytes
cut_two : (b c : ℕ) (rest : List ℕ) → b < 128 → c < 128 → IsCut (b ∷ c ∷ rest) rest
cut_two b c rest first second = cut_on (b ∷ c ∷ rest) (c ∷ rest) rest (cut_byte b (c ∷ rest) first) (cut_byte c rest second)

-- after the byte that ends a line
line_cut : (line tail : List ℕ) → starts (holds bytes.Line) tail ≡ false → IsCut (line ++ tail) (drop 1 tail)
line_cut line [] ends = record { piece = line; whole = refl; utf8 = λ u. IsUtf8-nil }
line_cut line (b ∷ tail) ends =
    let ascii : b < 128 = grind (arith, nat_tests, ends) in
    cut_on (line ++ b ∷ tail) (b ∷ tail) tail (cut_before line b tail ascii) (cut_byte b tail ascii)

prefix_cut : (lines : Bool) (text : List ℕ) (prefix : Prefix) → IsPrefix text prefix
    → (rest : List ℕ) → part_of lines prefix ≡ Ok (Some rest) → IsCut text rest
prefix_cut lines text (Gap b mid) (e, h) rest e' =
    let same = passed (lines || not (holds bytes.LineEnd b)) ReachedEOL mid rest e' in
    let ascii : b < 128 = grind (arith, nat_tests, h) in
    subst (IsCut text) same (cut_same text (b ∷ mid) mid e (cut_byte b mid ascii))
prefix_cut lines text (LineComment mid) (inside, line, tail, e, r, e'') rest e' =
    let same : mid ≡ rest = cc in
    subst (IsCut text) (sym e'' ∙ same)
    (cut_same text (codes "//" ++ inside) (drop 1 tail) e
    (cut_on (codes "//" ++ inside) inside (drop 1 tail) (cut_two 47 47 inside (omega arith) (omega arith))
    (cut_same inside (line ++ tail) (drop 1 tail) r.whole (line_cut line tail r.longest))))
prefix_cut lines text (BlockComment body mid) (inside, e, f) rest e' =
    let same = passed (lines || not (list_any (holds bytes.LineEnd) body)) ReachedEOL mid rest e' in
    subst (IsCut text) same
    (cut_same text (codes "/*" ++ inside) mid e
    (cut_on (codes "/*" ++ inside) inside mid (cut_two 47 42 inside (omega arith) (omega arith))
    (cut_same inside (body ++ (codes "*/" ++ mid)) mid (f.whole ∙ append_assoc body (codes "*/") mid)
    (cut_on (body ++ (codes "*/" ++ mid)) (codes "*/" ++ mid) mid (cut_before body 42 (47 ∷ mid) (omega arith)) (cut_two 42 47 mid (omega arith) (omega arith))))))
prefix_cut lines text (OpenComment inside) (e, misses) rest e' = absurd (stops (lines || not (list_any (holds bytes.LineEnd) inside)) e')
  where
    stops : (t : Bool) → cond t (Err IncompleteComment) (Err ReachedEOL) ≡ Ok (Some rest) → ⊥
    stops true h = cc
    stops false h = cc
prefix_cut lines text Bare h rest e' = cc

-- A blank ends where a text may be cut, or stops with a fault at such an offset. T is what holds at such offsets.
pub blank_ends_at : (T : List ℕ → Type 0) (S : Fault → Type 0) (len : ℕ) (lines : Bool)
    → ((text rest : List ℕ) → T text → IsCut text rest → T rest) → ((kind : FaultKind) (text : List ℕ) → T text → S (fault_at len kind text))
    → (text : List ℕ) (o : Result (Unit {0} × List ℕ) Fault) → T text → Blank len lines text o → EndsIn T S (λ _. Unit {0}) o
blank_ends_at T S len lines on fault = turns_pass T W (λ text turn t part. subst (TurnPasses T W) part.turns_to (go text part.prefix t part.here (part_of lines part.prefix) refl))
  where
    W : Result (Unit {0} × List ℕ) Fault → Type 0
    W = EndsIn T S (λ _. Unit {0})

    go : (text : List ℕ) (prefix : Prefix) → T text → IsPrefix text prefix → (o : Result (Option (List ℕ)) FaultKind) → part_of lines prefix ≡ o
        → TurnPasses T W (turn_of len text o)
    go text prefix t here (Ok (Some rest)) e = (on text rest t (prefix_cut lines text prefix here rest e), λ r w. w)
    go text prefix t here (Ok None) e = (t, tt)
    go text prefix t here (Err kind) e = fault kind text t
