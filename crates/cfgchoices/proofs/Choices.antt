-- What choices give for two lists of symbols, they give for the concatenation, and they give at most one list of tokens.
use Rattle.std.proofs.Common.{◌≡◌, ℕ, List, [], ◌∷◌, ◌++◌, Contains, refl, sym, ap, subst, ◌∙◌, append-nil, append_assoc}
use Rattle.std.proofs.lemmas.Option.{same_Some}
use Rattle.lemmas.proofs.Contained.{contains_first, contains_later}
use Rattle.derivation.specs.Grammar.{Sym, Rule, Token}
use Rattle.cfgtables.specs.Openings.{nth_production}
use Rattle.cfgleast.specs.Generator.{CostTables}
use Rattle.cfgchoices.specs.Choices.{ChoicesGive, empty, token, free, chosen}

module _ (x : CostTables) where
  -- what they give for the first rule, and for the other symbols
  pub record Given (r : ℕ) (a : List Sym) (w : List ℕ) : Type 0 where
    pub prefix : List ℕ
    pub suffix : List ℕ
    pub whole : w ≡ prefix ++ suffix
    pub first : ChoicesGive x (Rule r ∷ []) prefix
    pub second : ChoicesGive x a suffix

  pub choices_split : (r : ℕ) (a : List Sym) (w : List ℕ) → ChoicesGive x (Rule r ∷ a) w → Given r a w
  choices_split r a w (free nothing h) = record { prefix = []; suffix = w; whole = refl; first = free nothing empty; second = h }
  choices_split r a _ (chosen {u = u} {w = w} costly choice h k e) =
      record { prefix = u; suffix = w; whole = e; first = chosen costly choice h empty (sym (append-nil u)); second = k }

  pub choices_join : {a b : List Sym} {u v : List ℕ} → ChoicesGive x a u → ChoicesGive x b v → ChoicesGive x (a ++ b) (u ++ v)
  choices_join empty k = k
  choices_join (token h) k = token (choices_join h k)
  choices_join (free nothing h) k = free nothing (choices_join h k)
  choices_join {v = v} (chosen {u = u} {w = w} costly choice h i e) k = chosen costly choice h (choices_join i k) (ap (λ l. l ++ v) e ∙ append_assoc u w v)

  -- they give something for a list, if they do for each rule in it
  pub choices_sequence : (a : List Sym) → ((r : ℕ) → Contains a (Rule r) → (w : List ℕ) × ChoicesGive x (Rule r ∷ []) w) → (w : List ℕ) × ChoicesGive x a w
  choices_sequence [] one = ([], empty)
  choices_sequence (Token t ∷ a) one = let (w, h) = choices_sequence a (λ r h. one r (contains_later (Token t) (Rule r) a h)) in (t ∷ w, token h)
  choices_sequence (Rule q ∷ a) one =
      let (u, h) = one q (contains_first (Rule q) a) in
      let (w, k) = choices_sequence a (λ r h. one r (contains_later (Rule q) (Rule r) a h)) in
      (u ++ w, choices_join h k)

  pub choices_once : {a : List Sym} {v w : List ℕ} → ChoicesGive x a v → ChoicesGive x a w → v ≡ w
  choices_once empty empty = refl
  choices_once (token {t = t} h) (token k) = ap (λ l. t ∷ l) (choices_once h k)
  choices_once (free nothing h) (free also k) = choices_once h k
  choices_once (free nothing h) (chosen costly choice k l f) = absurd (costly nothing)
  choices_once (chosen costly choice h i e) (free nothing k) = absurd (costly nothing)
  choices_once (chosen {p = p} {m = m} {u = u} {w = w} costly choice h i e) (chosen {p = q} {m = n} {u = u'} {w = w'} also other k l f) =
      let pairs : ◌≡◌ {A = ℕ × ℕ} (p, m) (q, n) = same_Some _ _ (sym choice ∙ other) in
      let same : p ≡ q = ap (λ (c : ℕ × ℕ). c.0) pairs in
      let prefix : u ≡ u' = choices_once (subst (λ (p : ℕ). ChoicesGive x (nth_production x.grammar p).symbols u) same h) k in
      e ∙ ap (λ l. l ++ w) prefix ∙ ap (λ l. u' ++ l) (choices_once i l) ∙ sym f
