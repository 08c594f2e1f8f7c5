-- A candidate is removed, and what is left until there are no candidates.
use Rattle.std.proofs.Common.{◌≡◌, ℕ, ◌+◌, ◌-◌, ◌*◌, ◌<◌, ◌≤◌, ◌⊎◌, inl, inr, true, false, true≢false, Option, Some, slice_set, List, [], ◌∷◌, ◌++◌, get_or, length, map, None, Contains, arith, refl, sym, ap, subst, ◌∙◌}
use Rattle.std.proofs.Math.Seq.{get_or-append_seam}
use Rattle.std.proofs.lemmas.List.{get_or_append_left, get_or_default, length-map, length_push, map-append, map-set}
use Rattle.std.proofs.lemmas.List.Elements.{Contains-append_left, Contains-push, Contains-push_cases}
use Rattle.cfgleast.specs.Certificate.{choice_of, rule_choice}
use Rattle.cfgchoices.specs.Kinds.{IsChain, production_numbers}
use Rattle.cfgindex.specs.declared.idxnewtype.PIdx.{PIdx}
use Rattle.cfgchoices.specs.Inner.Candidates.{Adds, HandlesChains, HasChoice, IsDone, IsHandled, IsKnown, Known, AreCandidates, NotAfter, Nominating, Candidates, GivesNoMore, Takes, Waits, left_to_choose, owner, sequence, waiting}
use Rattle.cfgchoices.proofs.Choosing.{few}
use Rattle.lemmas.proofs.Contained.{contains_none}
use Rattle.cfgchoices.proofs.Pending.{choice_shown}
use Rattle.std.specs.Prelude.{is_some}
use Rattle.cfgchoices.proofs.Nominated.{choosing, handled_chosen, chains_chosen, nominating_chosen, holds_done, was_chosen, with_choice}

module _ (k : Known) (f : Candidates) (candidates : AreCandidates k f) (p : ℕ) (rest : List ℕ) where
  abbrev left_ready : Candidates
  left_ready = record { choices = f.choices; number = f.number; cost = f.cost; ready = rest; sorted = f.sorted; foremost = f.foremost }

  pub take_ready : f.ready ≡ rest ++ p ∷ [] → Takes k p f left_ready
  take_ready e =
      let had = subst (λ l. Contains l p) (sym e) (Contains-push rest p) in
      let old = λ (q : ℕ) (h : Contains rest q). subst (λ l. Contains l q) (sym e) (Contains-append_left rest (p ∷ []) q h) in
      let still = λ (q : ℕ) (h : Waits left_ready q). elim h as (λ _. Waits f q) [ inl ready ↦ inl (old q ready) | inr other ↦ inr other ] in record {
        others = refl;
        candidates = record {
          choosing = candidates.choosing;
          costs = candidates.costs;
          nominated = λ q h. candidates.nominated q (still q h);
          sole = λ q h. candidates.sole q (old q h);
          several = candidates.several;
          order = candidates.order;
        };
        next = record { nominated = candidates.nominated p (inl had); least = inl (candidates.sole p had) };
        waits = λ q h. elim h [
          | inl ready ↦ elim (Contains-push_cases rest p q (subst (λ l. Contains l q) e ready)) [ inl i ↦ inl (inl i) | inr is ↦ inr (sym is) ]
          | inr other ↦ inl (inr other)
        ];
        together = let long = ap length e in let one = length_push rest p in omega (arith, long, one);
      }

  abbrev left_sorted : Candidates
  left_sorted = record { choices = f.choices; number = f.number; cost = f.cost; ready = f.ready; sorted = rest; foremost = f.foremost }

  module _ (none : f.ready ≡ []) (e : f.sorted ≡ rest ++ p ∷ []) where
    abbrev NotBefore : ℕ → ℕ → Type 0
    NotBefore a b = NotAfter k.tables f.choices (sequence k.tables b) (sequence k.tables a)

    order : (i j : ℕ) → i < j → j < length rest + 1 → NotBefore (get_or (rest ++ p ∷ []) i 0) (get_or (rest ++ p ∷ []) j 0)
    order i j lt short = subst (λ l. NotBefore (get_or l i 0) (get_or l j 0)) e
        (candidates.order i j lt (let long = ap length e in let one = length_push rest p in omega (arith, short, long, one)))

    prefix : (i : ℕ) → i < length rest → get_or (rest ++ p ∷ []) i 0 ≡ get_or rest i 0
    prefix i lt = get_or_append_left rest (p ∷ []) 0 i lt

    before_last : (i : ℕ) → i < length rest → NotAfter k.tables f.choices (sequence k.tables p) (sequence k.tables (get_or rest i 0))
    before_last i lt = subst (λ a. NotBefore a p) (prefix i lt)
        (subst (NotBefore (get_or (rest ++ p ∷ []) i 0)) (get_or-append_seam rest p [] 0) (order i (length rest) lt (omega arith)))

    pub take_sorted : Takes k p f left_sorted
    take_sorted =
        let had = subst (λ l. Contains l p) (sym e) (Contains-push rest p) in
        let old = λ (q : ℕ) (h : Contains rest q). subst (λ l. Contains l q) (sym e) (Contains-append_left rest (p ∷ []) q h) in
        let still = λ (q : ℕ) (h : Waits left_sorted q). elim h as (λ _. Waits f q) [ inl ready ↦ inl ready | inr other ↦ inr (old q other) ] in record {
          others = refl;
          candidates = record {
            choosing = candidates.choosing;
            costs = candidates.costs;
            nominated = λ q h. candidates.nominated q (still q h);
            sole = candidates.sole;
            several = λ q h. candidates.several q (old q h);
            order = λ i j lt short. subst (λ a. NotBefore a (get_or rest j 0)) (prefix i (omega (arith, lt, short)))
                (subst (NotBefore (get_or (rest ++ p ∷ []) i 0)) (prefix j short) (order i j lt (omega (arith, short))));
          };
          next = record {
            nominated = candidates.nominated p (inr had);
            least = inr (λ q h. elim h [
              | inl ready ↦ absurd (contains_none q (subst (λ l. Contains l q) none ready))
              | inr other ↦ let (i, within, at) = other in
                  subst (λ a. NotAfter k.tables f.choices (sequence k.tables p) (sequence k.tables a)) (get_or_default rest i 0 q within ∙ at) (before_last i within)
            ]);
          };
          waits = λ q h. elim h [
            | inl ready ↦ inl (inl ready)
            | inr other ↦ elim (Contains-push_cases rest p q (subst (λ l. Contains l q) e other)) [ inl i ↦ inl (inr i) | inr is ↦ inr (sym is) ]
          ];
          together = let long = ap length e in let one = length_push rest p in omega (arith, long, one);
        }

module _ (k : Known) (p : ℕ) (f f' : Candidates) (t : Takes k p f f') where
  same : f'.choices ≡ f.choices
  same = ap (λ (f : Candidates). f.choices) t.others

  taken_handled : (q : ℕ) → IsHandled k.tables f q → IsHandled k.tables f' q ⊎ GivesNoMore k.tables f'.choices p q
  taken_handled q (inl done) = inl (inl (subst (λ l. IsDone k.tables l q) (sym same) done))
  taken_handled q (inr (r, waits, holds)) =
      let now = subst (λ l. GivesNoMore k.tables l r q) (sym same) holds in
      elim (t.waits r waits) [ inl still ↦ inl (inr (r, still, now)) | inr is ↦ inr (subst (λ i. GivesNoMore k.tables f'.choices i q) is now) ]

  pub taken_cost : f'.cost ≡ f.cost
  taken_cost = ap (λ (f : Candidates). f.cost) t.others

  taken_number : f'.number ≡ f.number
  taken_number = ap (λ (f : Candidates). f.number) t.others

  pub taken_less : left_to_choose k f' < left_to_choose k f
  taken_less =
      let same = ap (λ n. (k.tables.grammar.rules - n) * (length k.tables.grammar.productions + 1)) taken_number in
      omega (arith, t.together, same)

  module _ (g : HandlesChains k f) where
    chains : (q r : ℕ) → IsChain k.tables q r → HasChoice f'.choices r → IsHandled k.tables f' q ⊎ GivesNoMore k.tables f'.choices p q
    chains q r target has = taken_handled q (g.chains q r target (subst (λ l. HasChoice l r) same has))

    foremost : (r q : ℕ) → get_or f'.foremost r None ≡ Some q → (owner k.tables q ≡ r) × (Waits f' q ⊎ HasChoice f'.choices r ⊎ (q ≡ p))
    foremost r q e =
        let (owned, where_is) = g.nominating.foremost r q (ap (λ (f : Candidates). get_or f.foremost r None) (sym t.others) ∙ e) in (
          owned,
          elim where_is [
            | inl waits ↦ elim (t.waits q waits) [ inl still ↦ inl still | inr is ↦ inr (inr is) ]
            | inr has ↦ inr (inl (subst (λ l. HasChoice l r) (sym same) has))
          ],
        )

    listed : length f'.foremost ≡ k.tables.grammar.rules
    listed = ap (λ (f : Candidates). length f.foremost) t.others ∙ g.nominating.listed

    module _ (n : ℕ) (is : IsKnown k n) where
      -- the rule has a choice
      module _ (has : HasChoice f'.choices (owner k.tables p)) where
        passed : (q : ℕ) → IsHandled k.tables f' q ⊎ GivesNoMore k.tables f'.choices p q → IsHandled k.tables f' q
        passed q (inl h) = h
        passed q (inr holds) = inl (holds_done k.tables f'.choices p q (was_chosen k n is f' p t.candidates t.next.nominated has) holds)

        pub passed_handles : (q : ℕ) → IsHandled k.tables f q → IsHandled k.tables f' q
        passed_handles q h = passed q (taken_handled q h)

        pub passed_going : HandlesChains k f'
        passed_going = record {
          nominating = record {
            candidates = t.candidates;
            listed = listed;
            foremost = λ r q e.
                let (owned, where_is) = foremost r q e in (
                  owned,
                  elim where_is [
                    | inl waits ↦ inl waits
                    | inr other ↦ inr (elim other [ inl old ↦ old | inr same ↦ subst (HasChoice f'.choices) (ap (owner k.tables) (sym same) ∙ owned) has ])
                  ],
                );
          };
          chains = λ q r target i. passed q (chains q r target i);
        }

      -- it gets one
      module _ (unset : rule_choice f'.choices (owner k.tables p) ≡ None) (within : owner k.tables p < k.tables.grammar.rules) where
        abbrev pub now : Candidates
        now = with_choice k n is f' p t.candidates t.next unset within

        pub now_nominating : Nominating k now
        now_nominating = nominating_chosen k n is f' p t.candidates t.next unset within listed foremost

        pub number_fits : f'.number + 1 ≤ k.tables.grammar.rules
        number_fits = few k.tables _ (f'.number + 1) (choosing k n is f' p t.candidates t.next unset within)

        -- and the chain productions that lead to the rule are candidates
        module _ (f'' : Candidates) (adds : Adds k.tables (λ q. IsChain k.tables q (owner k.tables p)) (length k.tables.grammar.productions) now f'') where
          pub chosen_handles : (q : ℕ) → IsHandled k.tables f q → IsHandled k.tables f'' q
          chosen_handles q h = adds.handles q (inl (handled_chosen k n is f' p t.candidates t.next unset within q (taken_handled q h)))

          pub chosen_going : Nominating k f'' → HandlesChains k f''
          chosen_going nominating = record {
            nominating = nominating;
            chains = chains_chosen k n is f' p t.candidates t.next unset within f'' adds.choices adds.handles chains;
          }

          pub chosen_left : left_to_choose k f'' < left_to_choose k f
          chosen_left =
              product k.tables.grammar.rules f.number f''.number (length k.tables.grammar.productions) (waiting f) (waiting f'')
              (let most = number_fits in let number = taken_number in omega (arith, most, number)) (adds.number ∙ ap (λ n. n + 1) taken_number) (omega (arith, adds.together, t.together))
            where
              spread : (d c w v whole : ℕ) → whole ≡ (d + 1) * (c + 1) → v + 1 ≤ w + c → d * (c + 1) + v < whole + w
              spread d c w v whole is all = omega (arith, is, all)

              product : (r a b c w v : ℕ) → a + 1 ≤ r → b ≡ a + 1 → v + 1 ≤ w + c → (r - b) * (c + 1) + v < (r - a) * (c + 1) + w
              product r a b c w v most is all =
                  let one : r - a ≡ (r - b) + 1 = omega (arith, most, is) in
                  let whole : (r - a) * (c + 1) ≡ ((r - b) + 1) * (c + 1) = ap (λ d. d * (c + 1)) one in
                  spread (r - b) c w v ((r - a) * (c + 1)) whole all

-- lists of the code as numbers, after the last element was removed
pub last_taken : {S : Type 0} (number : S → ℕ) (items rest : List (PIdx S)) (p : PIdx S) → items ≡ rest ++ p ∷ [] → production_numbers number items ≡ production_numbers number rest ++ number p.0 ∷ []
last_taken number items rest p e = ap (production_numbers number) e ∙ map-append (λ (q : PIdx _). number q.0) rest (p ∷ [])

-- a rule has an entry in a list of the code
pub entry_within : {A B : Type 0} (f : A → B) (items : List A) (rules i r : ℕ) → length (map f items) ≡ rules → i ≡ r → i < rules → r < length items
entry_within f items rules i r listed at lt = let len = length-map items f in omega (arith, len, listed, at, lt)

-- whether a rule has a choice, as the code says
module _ {S : Type 0} (number : S → ℕ) (items : List (Option (PIdx S × ℕ))) (i r : ℕ) (at : i ≡ r) (within : r < length items) where
  pub unset_shown : (o : Option (PIdx S × ℕ)) → o ≡ get_or items i o → is_some o ≡ false → rule_choice (map (choice_of number) items) r ≡ None
  unset_shown None is e = choice_shown number items i r None None at within (sym is)
  unset_shown (Some choice) is e = absurd (true≢false e)

  pub has_shown : (o : Option (PIdx S × ℕ)) → o ≡ get_or items i o → is_some o ≡ true → HasChoice (map (choice_of number) items) r
  has_shown None is e = absurd (true≢false (sym e))
  has_shown (Some (p, m)) is e = ((number p.0, m), choice_shown number items i r (Some (p, m)) (Some (p, m)) at within (sym is))

  pub chosen_shown : (p : PIdx S) (n : ℕ) → map (choice_of number) (slice_set items i (Some (p, n))) ≡ slice_set (map (choice_of number) items) r (Some (number p.0, n))
  chosen_shown p n = map-set (choice_of number) items i (Some (p, n)) ∙ ap (λ j. slice_set (map (choice_of number) items) j (Some (number p.0, n))) at

  pub none_shown : (o : Option (PIdx S × ℕ)) → o ≡ get_or items i o → is_some o ≡ false → HasChoice (map (choice_of number) items) r → ⊥
  none_shown o is e has = let no : None ≡ Some has.0 = sym (unset_shown o is e) ∙ has.1 in cc
