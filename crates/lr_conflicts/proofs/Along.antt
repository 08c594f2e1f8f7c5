-- Where symbols lead along a list: to its end only if they are that list.
use Rattle.std.proofs.Common.{◌≡◌, ℕ, ◌+◌, ◌<◌, Bool, true, false, cond, List, [], ◌∷◌, ◌++◌, Option, None, Some, slice_get, length, take, append-nil, append_assoc, refl, sym, ap, ◌∙◌, true≢false, arith}
use Rattle.std.proofs.lemmas.Bool.Decides.{Decides-eqb}
use Rattle.std.proofs.lemmas.List.{length_push, take_all, take_more}
use Rattle.std.proofs.lemmas.Option.{get_or_from_slice_get, slice_get_within}
use Rattle.std.specs.Option.{option_and_then}
use Rattle.cfgrammar.specs.Grammar.{Sym, Rule, Token}
use Rattle.lr_states.proofs.Spines.{slice_at}
use Rattle.lr_conflicts.specs.Inner.Tables.{along, is_at, is_symbol}
use Rattle.lr_conflicts.specs.Inner.Ways.{run}
use Rattle.lr_conflicts.proofs.Runs.{run_first}

pub symbols_same : (a b : Sym) → is_symbol a b ≡ true → a ≡ b
symbols_same (Rule a) (Rule b) h = ap Rule ((Decides-eqb a b).0 h)
symbols_same (Token a) (Token b) h = ap Token ((Decides-eqb a b).0 h)
symbols_same (Rule a) (Token b) h = absurd (true≢false (sym h))
symbols_same (Token a) (Rule b) h = absurd (true≢false (sym h))

pub symbol_itself : (a : Sym) → is_symbol a a ≡ true
symbol_itself (Rule a) = (Decides-eqb a a).1 refl
symbol_itself (Token a) = (Decides-eqb a a).1 refl

-- a step along a list goes over the symbol there
step_by : (q r : ℕ) (x y : Sym) (b : Bool) → is_symbol y x ≡ b → cond b (Some (q + 1)) None ≡ Some r → (y ≡ x) × (q + 1 ≡ r)
step_by q r x y false is e = absurd (cc)
step_by q r x y true is e = (symbols_same y x is, (cc))

step_over : (list : List Sym) (q r : ℕ) (x : Sym) → along list q x ≡ Some r → (slice_get list q ≡ Some x) × (q + 1 ≡ r)
step_over list q r x e = go (slice_get list q) refl e
  where
    go : (o : Option Sym) → slice_get list q ≡ o → cond (is_at o x) (Some (q + 1)) None ≡ Some r → (slice_get list q ≡ Some x) × (q + 1 ≡ r)
    go None is e = absurd (cc)
    go (Some y) is e = let (same, next) = step_by q r x y (is_symbol y x) refl e in (is ∙ ap Some same, next)

run_over : (list : List Sym) (q r : ℕ) (symbols : List Sym) → run (along list) q symbols ≡ Some r → take q list ++ symbols ≡ take r list
run_over list q r [] e = let same : q ≡ r = cc in append-nil (take q list) ∙ ap (λ n. take n list) same
run_over list q r (x ∷ symbols) e =
    let (m, is, rest) = run_first (along list) q r x symbols e in
    let (at, next) = step_over list q m x is in
    let within : q < length list = slice_get_within list q x at in
    let front : take (q + 1) list ≡ take q list ++ x ∷ [] = take_more list q x within ∙ ap (λ y. take q list ++ y ∷ []) (get_or_from_slice_get list q x x at) in
    sym (append_assoc (take q list) (x ∷ []) symbols) ∙ ap (λ l. l ++ symbols) (sym front ∙ ap (λ n. take n list) next) ∙ run_over list m r symbols rest

pub run_whole : (list symbols : List Sym) → run (along list) 0 symbols ≡ Some (length list) → symbols ≡ list
run_whole list symbols e = run_over list 0 (length list) symbols e ∙ take_all (length list) list (omega arith)

runs_on : (before symbols list : List Sym) → list ≡ before ++ symbols → run (along list) (length before) symbols ≡ Some (length list)
runs_on before [] list is = ap Some (sym (ap length (is ∙ append-nil before)))
runs_on before (x ∷ symbols) list is =
    let at : slice_get list (length before) ≡ Some x = ap (λ l. slice_get l (length before)) is ∙ slice_at before symbols x in
    let here : along list (length before) x ≡ Some (length before + 1) =
    ap (λ o. cond (is_at o x) (Some (length before + 1)) None) at ∙ ap (λ b. cond b (Some (length before + 1)) None) (symbol_itself x) in
    ap (option_and_then (λ m. run (along list) m symbols)) here ∙ ap (λ m. run (along list) m symbols) (sym (length_push before x))
    ∙ runs_on (before ++ x ∷ []) symbols list (is ∙ sym (append_assoc before (x ∷ []) symbols))

pub runs_whole : (list : List Sym) → run (along list) 0 list ≡ Some (length list)
runs_whole list = runs_on [] list list refl
