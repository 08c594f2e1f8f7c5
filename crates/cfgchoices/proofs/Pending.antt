-- Lists of pending symbols, the first one last: what the choices give for them, token by token.
use Rattle.std.proofs.Common.{◌≡◌, ℕ, ◌+◌, ◌<◌, ◌≤◌, get_or, length, List, [], ◌∷◌, ◌++◌, map, reverse, Option, Some, None, arith, refl, sym, ap, subst, ◌∙◌}
use Rattle.std.proofs.lemmas.Option.{same_Some}
use Rattle.cfgindex.specs.declared.idxnewtype.PIdx.{PIdx}
use Rattle.cfgindex.specs.declared.idxnewtype.Symbol.{Symbol}
use Rattle.cfgtables.specs.NumberedSymbols.{sym_of}
use Rattle.lemmas.proofs.Elements.{within_from_get_or}
use Rattle.cfgchoices.proofs.Optimal.{answered_within}
use Rattle.std.proofs.lemmas.List.{get_or-map, map-append, reverse-append, reverse-reverse}
use Rattle.std.proofs.lemmas.List.Sorted.{IsPermutation-reverse, sum_by-IsPermutation}
use Rattle.std.proofs.lemmas.List.Sums.{sum_by-append, sum_by-cons}
use Rattle.derivation.specs.Grammar.{Sym, Rule, Token}
use Rattle.cfgtables.specs.Openings.{nth_production}
use Rattle.cfgleast.specs.Certificate.{choice_of, rule_choice}
use Rattle.cfgchoices.specs.Choices.{ChoicesGive, empty, token, free, chosen}
use Rattle.cfgleast.specs.Generator.{CostTables, IsGenerator, choice_answer, cost_answer, where_some}
use Rattle.cfgchoices.specs.Inner.Candidates.{Choices, Choosing, Pends, with_choices, left_to_open, sequence, tree_size}
use Rattle.cfgchoices.proofs.Choices.{choices_join, choices_once}
use Rattle.cfgchoices.proofs.Choosing.{answer_chosen, few, paid_chosen, sequence_below}
use Rattle.cfgchoices.proofs.TreeSizes.{tree_size_opened, tree_size_positive}

pub map_reverse : {A B : Type 0} (f : A → B) (xs : List A) → map f (reverse xs) ≡ reverse (map f xs)
map_reverse f [] = refl
map_reverse f (x ∷ xs) = ap (map f) (reverse-append (x ∷ []) xs) ∙ map-append f (reverse xs) (x ∷ []) ∙ ap (λ l. l ++ f x ∷ []) (map_reverse f xs)
    ∙ sym (reverse-append (f x ∷ []) (map f xs))

where_none : (c : Option ℕ) → where_some c None ≡ None
where_none None = refl
where_none (Some c) = refl

module _ (x : CostTables) where
  pub token_prefix : (t : ℕ) (a : List Sym) (w : List ℕ) → ChoicesGive x (Token t ∷ a) w → (v : List ℕ) × (w ≡ t ∷ v) × ChoicesGive x a v
  token_prefix t a _ (token {w = v} h) = (v, refl, h)

  free_prefix : (r : ℕ) (a : List Sym) (w : List ℕ) → rule_choice x.choices r ≡ None → ChoicesGive x (Rule r ∷ a) w → ChoicesGive x a w
  free_prefix r a w none (free nothing h) = h
  free_prefix r a w none (chosen {p = p} {m = m} paid choice h k e) =
      let no : ◌≡◌ {A = Option (ℕ × ℕ)} None (Some (p, m)) = sym (ap (where_some (cost_answer x r)) none ∙ where_none (cost_answer x r)) ∙ choice in absurd (cc)

  rule_prefix : (r p m : ℕ) (a : List Sym) (w : List ℕ) → (cost_answer x r ≡ Some 0 → ⊥) → choice_answer x r ≡ Some (p, m) → ChoicesGive x (Rule r ∷ a) w
      → ChoicesGive x ((nth_production x.grammar p).symbols ++ a) w
  rule_prefix r p m a w paid answer (free nothing h) = absurd (paid nothing)
  rule_prefix r p m a w paid answer (chosen {p = q} {m = n} also other h k e) =
      let pairs : ◌≡◌ {A = ℕ × ℕ} (q, n) (p, m) = same_Some _ _ (sym other ∙ answer) in
      let same : q ≡ p = ap (λ (c : ℕ × ℕ). c.0) pairs in
      subst (λ (i : ℕ). ChoicesGive x ((nth_production x.grammar i).symbols ++ a) w) same
      (subst (ChoicesGive x ((nth_production x.grammar q).symbols ++ a)) (sym e) (choices_join x h k))

-- the last symbol, in numbers
pub last_shown : {S : Type 0} (number : S → ℕ) (items rest : List (Symbol S)) (symbol is : Symbol S) → items ≡ rest ++ symbol ∷ [] → symbol ≡ is
    → map (sym_of number) items ≡ map (sym_of number) rest ++ sym_of number is ∷ []
last_shown number items rest symbol is e f =
    ap (map (sym_of number)) e ∙ map-append (sym_of number) rest (symbol ∷ []) ∙ ap (λ s. map (sym_of number) rest ++ sym_of number s ∷ []) f

-- and symbols that are appended in reverse
pub turned_shown : {S : Type 0} (number : S → ℕ) (pending rest symbols : List (Symbol S)) (a : List Sym) → pending ≡ rest ++ reverse symbols → map (sym_of number) symbols ≡ a
    → map (sym_of number) pending ≡ map (sym_of number) rest ++ reverse a
turned_shown number pending rest symbols a e is = ap (map (sym_of number)) e ∙ map-append (sym_of number) rest (reverse symbols)
    ∙ ap (λ l. map (sym_of number) rest ++ l) (map_reverse (sym_of number) symbols ∙ ap reverse is)

-- an entry of a list of the code, as a number
pub entry_shown : {A B : Type 0} (f : A → B) (xs : List A) (i r : ℕ) (d o : A) (e : B) → i ≡ r → r < length xs → get_or xs i d ≡ o → get_or (map f xs) r e ≡ f o
entry_shown f xs i r d o e at within is = get_or-map f xs r d e within ∙ ap f (ap (λ n. get_or xs n d) (sym at) ∙ is)

pub choice_shown : {S : Type 0} (number : S → ℕ) (xs : List (Option (PIdx S × ℕ))) (i r : ℕ) (d o : Option (PIdx S × ℕ)) → i ≡ r → r < length xs → get_or xs i d ≡ o
    → rule_choice (map (choice_of number) xs) r ≡ choice_of number o
choice_shown number xs i r d o = entry_shown (choice_of number) xs i r d o None

-- the symbols that are pending now give the same, by trees that are no larger
pub record GoesOn (x : CostTables) (l : Choices) (old pending : List Sym) : Type 0 where
  pub same : (w : List ℕ) → Pends x l old w → Pends x l pending w
  pub left : left_to_open x l pending ≤ left_to_open x l old

module _ (x : CostTables) (l : Choices) (n : ℕ) (state : Choosing x l n) (rest : List Sym) where
  first_pending : (s : Sym) (w : List ℕ) → Pends x l (rest ++ s ∷ []) w → ChoicesGive (with_choices x l) (s ∷ reverse rest) w
  first_pending s w h = subst (λ a. ChoicesGive (with_choices x l) a w) (reverse-append rest (s ∷ [])) h

  pub rule_within : (k : ℕ) → IsGenerator x k → (r : ℕ) (w : List ℕ) → Pends x l (rest ++ Rule r ∷ []) w → r < length l
  rule_within k is r w h = go (reverse rest) (first_pending (Rule r) w h)
    where
      go : (a : List Sym) → ChoicesGive (with_choices x l) (Rule r ∷ a) w → r < length l
      go a (free nothing h) = subst (λ m. r < m) (sym state.listed) (answered_within x k is r 0 nothing)
      go a (chosen {p = p} {m = m} paid choice h k e) = within_from_get_or l r None (λ none.
          let no : ◌≡◌ {A = Option (ℕ × ℕ)} None (Some (p, m)) = sym (ap (where_some (cost_answer x r)) none ∙ where_none (cost_answer x r)) ∙ choice in absurd (cc))

  pub none_pending : (w : List ℕ) → Pends x l [] w → w ≡ []
  none_pending w h = choices_once (with_choices x l) h empty

  pub token_pending : (t : ℕ) (w : List ℕ) → Pends x l (rest ++ Token t ∷ []) w → (v : List ℕ) × (w ≡ t ∷ v) × Pends x l rest v
  token_pending t w h = token_prefix (with_choices x l) t (reverse rest) w (first_pending (Token t) w h)

  abbrev size : Sym → ℕ
  size = tree_size x.grammar l 1 x.grammar.rules

  longer : (s : Sym) → left_to_open x l (rest ++ s ∷ []) ≡ left_to_open x l rest + size s
  longer s = let all = sum_by-append size rest (s ∷ []) in let one = sum_by-cons size s [] in omega (arith, all, one)

  pub symbol_less : (s : Sym) → left_to_open x l rest < left_to_open x l (rest ++ s ∷ [])
  symbol_less s = let all = longer s in let some = tree_size_positive x.grammar l 1 (omega arith) x.grammar.rules s in omega (arith, all, some)

  pub rule_less : (r p m : ℕ) → rule_choice l r ≡ Some (p, m) → left_to_open x l (rest ++ reverse (sequence x p)) < left_to_open x l (rest ++ Rule r ∷ [])
  rule_less r p m e =
      let deep = few x l n state in
      let below = (state.each r p m e).1 in
      let all = longer (Rule r) in
      let one = tree_size_opened x.grammar l 1 (λ q i j is. sequence_below x l n state j (sequence x i) (state.each q i j is).0.below) x.grammar.rules r p m e (omega (arith, deep, below)) in
      let new = sum_by-append size rest (reverse (sequence x p)) in
      let turned = sum_by-IsPermutation size (sequence x p) (reverse (sequence x p)) (IsPermutation-reverse (sequence x p)) in
      omega (arith, all, one, new, turned)

  -- a rule that has no choice is skipped
  pub goes_on_free : (old : List Sym) (r : ℕ) → rule_choice l r ≡ None → GoesOn x l old (rest ++ Rule r ∷ []) → GoesOn x l old rest
  goes_on_free old r none g = record {
    same = λ w h. free_prefix (with_choices x l) r (reverse rest) w none (first_pending (Rule r) w (g.same w h));
    left = omega (arith, g.left, symbol_less (Rule r));
  }

  -- another rule is replaced by what was chosen for it
  pub goes_on_opened : (old : List Sym) (r p m : ℕ) → rule_choice l r ≡ Some (p, m) → GoesOn x l old (rest ++ Rule r ∷ []) → GoesOn x l old (rest ++ reverse (sequence x p))
  goes_on_opened old r p m e g =
      let c = (state.each r p m e).0 in record {
        same = λ w h. subst (λ a. ChoicesGive (with_choices x l) a w) (sym (reverse-append rest (reverse (sequence x p)) ∙ ap (λ l. l ++ reverse rest) (reverse-reverse (sequence x p))))
            (rule_prefix (with_choices x l) r p m (reverse rest) w (paid_chosen x l n state r p m c) (answer_chosen x l n state r p m e c) (first_pending (Rule r) w (g.same w h)));
        left = omega (arith, g.left, rule_less r p m e);
      }
