-- Steps from unproductive rules to those that they need, as they are put into lists.
use Rattle.std.proofs.Common.{◌≡◌, ◌⊎◌, inl, inr, ℕ, ◌+◌, ◌<◌, List, [], ◌∷◌, ◌++◌, Contains, get_or, slice_set, length, map, take, arith, refl, sym, ap, ◌∙◌, subst, length-set, get_or-set_same, get_or-set_other}
use Rattle.std.proofs.lemmas.Bool.{cases_eq, cases_lt}
use Rattle.std.proofs.lemmas.List.{get_or_default}
use Rattle.std.proofs.lemmas.List.Elements.{Contains-append_cases, Contains-append_left, Contains-push, Contains-push_cases}
use Rattle.cfgrammar.proofs.Contained.{contains_one}
use Rattle.cfgrammar.proofs.Elements.{get_or-set}
use Rattle.cfgrammar.proofs.Turns.{more_taken}
use Rattle.cfgrammar.specs.Grammar.{HasProduction, Production, Rule, Sym}
use Rattle.cfgrammar.specs.Productive.{Unproductive}
use Rattle.cfgrammar.specs.Numbered.{Numbered, core}
use Rattle.cfgrammar.specs.Openings.{nth_production}
use Rattle.cfgrammar.specs.Sentence.{Sentence}
use Rattle.cfgrammar.specs.StepLists.{HasStep}
use Rattle.cfgrammar.specs.UnitStep.{UnitStep}
use Rattle.cfgfindings.specs.SinkGroups.{Needs}
use Rattle.cfgfindings.specs.Inner.SinkGroups.{AreNeeds, AreNeedsBelow, IsNeededIn, NeedsBy, Puts, StepsTo}
use Rattle.cfgfindings.proofs.Read.{has_read, production_there}

puts_none : (Put : ℕ → ℕ → Type 0) (steps : List (List UnitStep)) → ((a b : ℕ) → Put a b → ⊥) → Puts Put steps steps
puts_none Put steps none = record {
  shape = refl;
  within = λ within. within;
  steps = λ a b. (λ h. inl h, λ h. elim h [ inl i ↦ i | inr i ↦ absurd (none a b i) ]);
}

puts_then : (Put Put' Both : ℕ → ℕ → Type 0) (old mid new : List (List UnitStep)) → ((a b : ℕ) → Put a b ⊎ Put' a b → Both a b)
    → ((a b : ℕ) → Both a b → Put a b ⊎ Put' a b) → Puts Put old mid → Puts Put' mid new → Puts Both old new
puts_then Put Put' Both old mid new to from w v = record {
  shape = v.shape ∙ w.shape;
  within = λ within. v.within (w.within within);
  steps = λ a b. (
    (λ h. elim ((v.steps a b).0 h) [
      | inl i ↦ elim ((w.steps a b).0 i) [ inl j ↦ inl j | inr j ↦ inr (to a b (inl j)) ]
      | inr i ↦ inr (to a b (inr i))
    ]),
    (λ h. (v.steps a b).1 (elim h [
      | inl i ↦ inl ((w.steps a b).1 (inl i))
      | inr i ↦ elim (from a b i) [ inl j ↦ inl ((w.steps a b).1 (inr j)) | inr j ↦ inr j ]
    ])),
  );
}

module _ (old new : List (List UnitStep)) (rule : ℕ) (step : UnitStep) (within : rule < length old) (to_within : step.rule < length old)
    (is : new ≡ slice_set old rule (get_or old rule [] ++ step ∷ [])) where
  abbrev list : List UnitStep
  list = get_or old rule [] ++ step ∷ []

  at_rule : (s : UnitStep) → Contains list s → HasStep (slice_set old rule list) rule s
  at_rule s h = subst (λ l. Contains l s) (sym (get_or-set_same old rule list [] within)) h

  -- a step of the new lists is an old one, or the one that was put
  new_cases : (a : ℕ) (s : UnitStep) → HasStep (slice_set old rule list) a s → HasStep old a s ⊎ ((a ≡ rule) × (s ≡ step))
  new_cases a s h = elim (get_or-set old rule a list []) [
    | inl e ↦ inl (subst (λ l. Contains l s) e h)
    | inr e ↦ elim (Contains-push_cases (get_or old rule []) step s (subst (λ l. Contains l s) e.1 h)) [
      | inl i ↦ inl (subst (λ n. HasStep old n s) (sym e.0) i)
      | inr i ↦ inr (e.0, sym i)
    ]
  ]

  still : (a : ℕ) (s : UnitStep) → HasStep old a s → HasStep (slice_set old rule list) a s
  still a s h = elim (cases_eq a rule) [
    | inl e ↦ subst (λ n. HasStep (slice_set old rule list) n s) (sym e)
        (at_rule s (Contains-append_left (get_or old rule []) (step ∷ []) s (subst (λ n. HasStep old n s) e h)))
    | inr ne ↦ subst (λ l. Contains l s) (sym (get_or-set_other old rule a list [] ne)) h
  ]

  puts_one : Puts (λ a b. (a ≡ rule) × (b ≡ step.rule)) old new
  puts_one = subst (Puts (λ a b. (a ≡ rule) × (b ≡ step.rule)) old) (sym is) (record {
    shape = length-set old rule list;
    within = λ w a s h. subst (λ n. s.rule < n) (sym (length-set old rule list)) (elim (new_cases a s h) [
      | inl i ↦ w a s i
      | inr i ↦ subst (λ (x : UnitStep). x.rule < length old) (sym i.1) to_within
    ]);
    steps = λ a b. (to a b, from a b);
  })
    where
      to : (a b : ℕ) → StepsTo (slice_set old rule list) a b → StepsTo old a b ⊎ ((a ≡ rule) × (b ≡ step.rule))
      to a b h = elim (new_cases a h.step h.has) [
        | inl i ↦ inl (record { step = h.step; has = i; to = h.to })
        | inr i ↦ inr (i.0, sym h.to ∙ ap (λ (x : UnitStep). x.rule) i.1)
      ]

      from : (a b : ℕ) → StepsTo old a b ⊎ ((a ≡ rule) × (b ≡ step.rule)) → StepsTo (slice_set old rule list) a b
      from a b (inl h) = record { step = h.step; has = still a h.step h.has; to = h.to }
      from a b (inr h) = record {
        step = step;
        has = subst (λ n. HasStep (slice_set old rule list) n step) (sym h.0) (at_rule step (Contains-push (get_or old rule []) step));
        to = sym h.1;
      }

module _ (g : Numbered) where
  abbrev IsUnproductive : ℕ → Type 0
  IsUnproductive = Unproductive (HasProduction (core g))

  -- steps to the unproductive rules among the first symbols, and then to the next one if it is such a rule
  more_needed : {A : Type 0} (f : A → Sym) (xs : List A) (n : ℕ) (x : A) → n < length xs → x ≡ get_or xs n x → (rule : ℕ) (Next : ℕ → Type 0)
      → ((b : ℕ) → Next b → (f x ≡ Rule b) × IsUnproductive b) → ((b : ℕ) → f x ≡ Rule b → IsUnproductive b → Next b) → (old mid new : List (List UnitStep))
      → Puts (λ a b. (a ≡ rule) × IsNeededIn g (map f (take n xs)) b) old mid → Puts (λ a b. (a ≡ rule) × Next b) mid new
      → Puts (λ a b. (a ≡ rule) × IsNeededIn g (map f (take (n + 1) xs)) b) old new
  more_needed f xs n x lt is rule Next next known old mid new before put = puts_then _ _ _ old mid new to from before put
    where
      same : map f (take (n + 1) xs) ≡ map f (take n xs) ++ f x ∷ []
      same = more_taken f xs n x lt is

      to : (a b : ℕ) → ((a ≡ rule) × IsNeededIn g (map f (take n xs)) b) ⊎ ((a ≡ rule) × Next b) → (a ≡ rule) × IsNeededIn g (map f (take (n + 1) xs)) b
      to a b (inl h) = (
        h.0,
        record {
          holds = subst (λ l. Contains l (Rule b)) (sym same) (Contains-append_left (map f (take n xs)) (f x ∷ []) (Rule b) h.1.holds);
          needed = h.1.needed;
        },
      )
      to a b (inr h) = (
        h.0,
        record {
          holds = subst (λ l. Contains l (Rule b)) (sym same)
              (subst (λ y. Contains (map f (take n xs) ++ y ∷ []) (Rule b)) (sym (next b h.1).0) (Contains-push (map f (take n xs)) (Rule b)));
          needed = (next b h.1).1;
        },
      )

      from : (a b : ℕ) → (a ≡ rule) × IsNeededIn g (map f (take (n + 1) xs)) b → ((a ≡ rule) × IsNeededIn g (map f (take n xs)) b) ⊎ ((a ≡ rule) × Next b)
      from a b h = elim (Contains-append_cases (map f (take n xs)) (f x ∷ []) (Rule b) (subst (λ l. Contains l (Rule b)) same h.1.holds)) [
        | inl i ↦ inl (h.0, record { holds = i; needed = h.1.needed })
        | inr i ↦ inr (h.0, known b (contains_one (f x) (Rule b) i) h.1.needed)
      ]

  module _ {A : Type 0} (f : A → Sym) (xs : List A) (n : ℕ) (x : A) (lt : n < length xs) (is : x ≡ get_or xs n x) (rule : ℕ) (old mid new : List (List UnitStep)) where
    -- the next one is an unproductive rule, and a step to it is put
    pub needed_put : (q : ℕ) → f x ≡ Rule q → IsUnproductive q → (step : UnitStep) → step.rule ≡ q → rule < length mid → q < length mid
        → new ≡ slice_set mid rule (get_or mid rule [] ++ step ∷ [])
        → Puts (λ a b. (a ≡ rule) × IsNeededIn g (map f (take n xs)) b) old mid → Puts (λ a b. (a ≡ rule) × IsNeededIn g (map f (take (n + 1) xs)) b) old new
    needed_put q at none step to within to_within put before = more_needed f xs n x lt is rule (λ b. b ≡ step.rule) next known old mid new before
        (puts_one mid new rule step within (subst (λ k. k < length mid) (sym to) to_within) put)
      where
        next : (b : ℕ) → b ≡ step.rule → (f x ≡ Rule b) × IsUnproductive b
        next b e = let same : q ≡ b = sym to ∙ sym e in (at ∙ ap Rule same, subst IsUnproductive same none)

        known : (b : ℕ) → f x ≡ Rule b → IsUnproductive b → b ≡ step.rule
        known b here needed = let rules : Rule q ≡ Rule b = sym at ∙ here in let same : b ≡ q = cc in same ∙ sym to

    -- the next one is no unproductive rule
    pub needed_left_out : ((q : ℕ) → f x ≡ Rule q → IsUnproductive q → ⊥) → new ≡ mid
        → Puts (λ a b. (a ≡ rule) × IsNeededIn g (map f (take n xs)) b) old mid → Puts (λ a b. (a ≡ rule) × IsNeededIn g (map f (take (n + 1) xs)) b) old new
    needed_left_out not same before = more_needed f xs n x lt is rule (λ b. ⊥) (λ b h. absurd h) not old mid new before
        (subst (Puts (λ a b. (a ≡ rule) × ⊥) mid) (sym same) (puts_none (λ a b. (a ≡ rule) × ⊥) mid (λ a b h. h.1)))

  abbrev IsBelow : ℕ → ℕ → ℕ → ℕ → Type 0
  IsBelow rules productions a b = ((a < rules) × IsUnproductive a × (b ≡ a)) ⊎ ((p : ℕ) × (p < productions) × NeedsBy g p a b)

  needs_more : (rules productions rules' productions' : ℕ) (Put : ℕ → ℕ → Type 0) → ((a b : ℕ) → IsBelow rules productions a b ⊎ Put a b → IsBelow rules' productions' a b)
      → ((a b : ℕ) → IsBelow rules' productions' a b → IsBelow rules productions a b ⊎ Put a b) → (old new : List (List UnitStep))
      → AreNeedsBelow g rules productions old → Puts Put old new → AreNeedsBelow g rules' productions' new
  needs_more rules productions rules' productions' Put to from old new are put = record {
    entries = put.shape ∙ are.entries;
    within = put.within are.within;
    are = λ a b. (
      (λ h. to a b (elim ((put.steps a b).0 h) [ inl i ↦ inl ((are.are a b).0 i) | inr i ↦ inr i ])),
      (λ h. (put.steps a b).1 (elim (from a b h) [ inl i ↦ inl ((are.are a b).1 i) | inr i ↦ inr i ])),
    );
  }

  -- steps by one more production
  pub one_more_production : (rules p : ℕ) (old new : List (List UnitStep)) → AreNeedsBelow g rules p old → Puts (NeedsBy g p) old new → AreNeedsBelow g rules (p + 1) new
  one_more_production rules p = needs_more rules p rules (p + 1) (NeedsBy g p) to from
    where
      to : (a b : ℕ) → IsBelow rules p a b ⊎ NeedsBy g p a b → IsBelow rules (p + 1) a b
      to a b (inl (inl h)) = inl h
      to a b (inl (inr (q, lt, by))) = inr (q, omega (arith, lt), by)
      to a b (inr by) = inr (p, omega arith, by)

      from : (a b : ℕ) → IsBelow rules (p + 1) a b → IsBelow rules p a b ⊎ NeedsBy g p a b
      from a b (inl h) = inl (inl h)
      from a b (inr (q, lt, by)) = elim (cases_lt q p) [
        | inl below ↦ inl (inr (q, below, by))
        | inr past ↦ inr (subst (λ n. NeedsBy g n a b) (omega (arith, lt, past)) by)
      ]

  -- the step of one more rule to itself, if it is unproductive
  one_more_rule : (rule : ℕ) (Put : ℕ → ℕ → Type 0) → ((a b : ℕ) → Put a b → (a ≡ rule) × IsUnproductive a × (b ≡ a)) → ((a b : ℕ) → (a ≡ rule) × IsUnproductive a × (b ≡ a) → Put a b)
      → (old new : List (List UnitStep)) → AreNeedsBelow g rule 0 old → Puts Put old new → AreNeedsBelow g (rule + 1) 0 new
  one_more_rule rule Put known as_put = needs_more rule 0 (rule + 1) 0 Put to from
    where
      to : (a b : ℕ) → IsBelow rule 0 a b ⊎ Put a b → IsBelow (rule + 1) 0 a b
      to a b (inl (inl (lt, none, same))) = inl (omega (arith, lt), none, same)
      to a b (inl (inr (q, lt, by))) = absurd (omega (arith, lt))
      to a b (inr put) = let (is, none, same) = known a b put in inl (omega (arith, is), none, same)

      from : (a b : ℕ) → IsBelow (rule + 1) 0 a b → IsBelow rule 0 a b ⊎ Put a b
      from a b (inl (lt, none, same)) = elim (cases_lt a rule) [
        | inl below ↦ inl (inl (below, none, same))
        | inr past ↦ inr (as_put a b (omega (arith, lt, past), none, same))
      ]
      from a b (inr (q, lt, by)) = absurd (omega (arith, lt))

  pub rule_put : (rule k : ℕ) → k ≡ rule → IsUnproductive k → (old new : List (List UnitStep)) (step : UnitStep) → step.rule ≡ rule → rule < length old
      → new ≡ slice_set old rule (get_or old rule [] ++ step ∷ []) → AreNeedsBelow g rule 0 old → AreNeedsBelow g (rule + 1) 0 new
  rule_put rule k same none old new step to within put before = one_more_rule rule (λ a b. (a ≡ rule) × (b ≡ step.rule))
      (λ a b h. (h.0, subst IsUnproductive (same ∙ sym h.0) none, h.1 ∙ to ∙ sym h.0)) (λ a b h. (h.0, h.2 ∙ h.0 ∙ sym to)) old new before
      (puts_one old new rule step within (subst (λ n. n < length old) (sym to) within) put)

  pub rule_left_out : (rule k : ℕ) → k ≡ rule → (w : List ℕ) × Sentence (HasProduction (core g)) k w → (old new : List (List UnitStep)) → new ≡ old
      → AreNeedsBelow g rule 0 old → AreNeedsBelow g (rule + 1) 0 new
  rule_left_out rule k same (w, has) old new is before = one_more_rule rule (λ a b. ⊥) (λ a b h. absurd h)
      (λ a b h. h.1 w (subst (λ r. Sentence (HasProduction (core g)) r w) (same ∙ sym h.0) has)) old new before
      (subst (Puts (λ a b. ⊥) old) (sym is) (puts_none (λ a b. ⊥) old (λ a b h. h)))

  -- by all productions a rule needs just the rules that it needs
  pub all_needs : (steps : List (List UnitStep)) → AreNeedsBelow g (length g.rules) (length g.productions) steps → AreNeeds g steps
  all_needs steps below = record {
    entries = below.entries;
    within = below.within;
    are = λ a b lt. ((λ h. to a b ((below.are a b).0 h)), (λ h. (below.are a b).1 (from a b lt h)));
  }
    where
      to : (a b : ℕ) → IsBelow (length g.rules) (length g.productions) a b → IsUnproductive a × ((b ≡ a) ⊎ Needs (HasProduction (core g)) a b)
      to a b (inl (lt, none, same)) = (none, inl same)
      to a b (inr (p, lt, by)) = (
        by.unproductive,
        inr (record {
          unproductive = by.unproductive;
          symbols = (nth_production (core g) p).symbols;
          has = subst (λ r. HasProduction (core g) r (nth_production (core g) p).symbols) by.owner (has_read g p lt);
          holds = by.needs.holds;
          needed = by.needs.needed;
        }),
      )

      from : (a b : ℕ) → a < length g.rules → IsUnproductive a × ((b ≡ a) ⊎ Needs (HasProduction (core g)) a b) → IsBelow (length g.rules) (length g.productions) a b
      from a b lt (none, inl same) = inl (lt, none, same)
      from a b lt (none, inr needs) =
          let (p, there, at) = needs.has in
          let production : nth_production (core g) p ≡ record { rule = a; symbols = needs.symbols } = get_or_default (core g).productions p _ _ there ∙ at in
          inr (
            p,
            production_there g p there,
            record {
              owner = ap (λ (x : Production). x.rule) production;
              unproductive = none;
              needs = record { holds = subst (λ (x : Production). Contains x.symbols (Rule b)) (sym production) needs.holds; needed = needs.needed };
            },
          )
