-- The index of a production among others in descending order, and what waits after it was inserted.
use Rattle.std.proofs.Common.{◌≡◌, ◌↔◌, ℕ, ◌+◌, ◌<◌, ◌≤◌, ◌⊎◌, inl, inr, true, false, List, [], ◌∷◌, ◌++◌, get_or, length, map, take, drop, slice_set, Option, Some, None, Contains, arith, refl, sym, ap, subst, ◌∙◌, true≢false}
use Rattle.std.proofs.lemmas.Option.{same_Some}
use Rattle.std.specs.List.{insert}
use Rattle.std.specs.Ordering.{is_lt, ordering_reverse}
use Rattle.std.specs.declared.cmp.Ordering.{Ordering}
use Rattle.std.proofs.lemmas.Bool.{cases_lt}
use Rattle.std.proofs.lemmas.Cmp.{nat_list_cmp_total}
use Rattle.cfgindex.specs.declared.idxnewtype.PIdx.{PIdx}
use Rattle.std.proofs.lemmas.List.{take-map, drop-map, map-append, map-set, length_push, length-set}
use Rattle.lemmas.proofs.Elements.{get_or-set}
use Rattle.std.proofs.lemmas.List.Edits.{length-insert}
use Rattle.std.proofs.lemmas.List.Elements.{Contains-append_left, Contains-get_or, Contains-push, Contains-push_cases}
use Rattle.std.proofs.lemmas.List.Sorted.{Contains-permutation, IsPermutation-insert, IsPermutation-sym}
use Rattle.cfgchoices.specs.Choices.{ChoicesGive}
use Rattle.cfgleast.specs.Generator.{CostTables}
use Rattle.cfgchoices.specs.FirstSentence.{lexicographic}
use Rattle.cfgchoices.specs.Kinds.{production_numbers}
use Rattle.cfgchoices.specs.Inner.Candidates.{Adds, Handles, HasChoice, IsHandled, IsCandidate, Known, AreCandidates, NotAfter, Nominating, Candidates, GivesNoMore, Waits, with_choices, is_sole, owner, production_number, sequence}
use Rattle.lemmas.proofs.Contained.{contains_cases, contains_first, contains_later}
use Rattle.cfgchoices.proofs.Nominated.{IsGiven, handled_wider, not_after_both, nominated_given, holds_itself}
use Rattle.cfgchoices.proofs.SequencesInOrder.{insert_in_order}

pub insert_has : {X : Type 0} (xs : List X) (at : ℕ) (y z : X) → Contains (insert xs at y) z ↔ (Contains xs z ⊎ (z ≡ y))
insert_has xs at y z =
    let moved = IsPermutation-insert xs at y in (
      (λ h. elim (contains_cases y z xs (Contains-permutation (insert xs at y) (y ∷ xs) z (IsPermutation-sym (y ∷ xs) (insert xs at y) moved) h)) [
        | inl same ↦ inr (sym same)
        | inr old ↦ inl old
      ]),
      (λ h. Contains-permutation (y ∷ xs) (insert xs at y) z moved (elim h [ inl old ↦ contains_later y z xs old | inr is ↦ subst (Contains (y ∷ xs)) (sym is) (contains_first y xs) ])),
    )

pub insert_shown : {A B : Type 0} (f : A → B) (xs : List A) (at : ℕ) (y : A) → map f (insert xs at y) ≡ insert (map f xs) at (f y)
insert_shown f xs at y = map-append f (take at xs) (y ∷ drop at xs) ∙ ap (λ l. l ++ f y ∷ map f (drop at xs)) (sym (take-map f at xs))
    ∙ ap (λ l. take at (map f xs) ++ f y ∷ l) (sym (drop-map f at xs))

-- a sorted list, where nothing below `low` comes before the production, and nothing from `high` on comes after it
pub record Between (k : Known) (f : Candidates) (p low high : ℕ) : Type 0 where
  pub within : high ≤ length f.sorted
  pub ordered : low ≤ high
  pub before : (i : ℕ) → i < low → NotAfter k.tables f.choices (sequence k.tables p) (sequence k.tables (get_or f.sorted i 0))
  pub after : (i : ℕ) → high ≤ i → i < length f.sorted → NotAfter k.tables f.choices (sequence k.tables (get_or f.sorted i 0)) (sequence k.tables p)

-- a production in the middle is compared
module _ (k : Known) (f : Candidates) (candidates : AreCandidates k f) (p low high middle q : ℕ) (b : Between k f p low high)
    (from : low ≤ middle) (to : middle < high) (at : get_or f.sorted middle 0 ≡ q) where
  abbrev x : CostTables
  x = k.tables

  inside : middle < length f.sorted
  inside = omega (arith, to, b.within)

  pub middle_nominated : IsCandidate k f.choices f.number f.cost q
  middle_nominated = subst (IsCandidate k f.choices f.number f.cost) at
      (candidates.nominated (get_or f.sorted middle 0) (inr (Contains-get_or f.sorted middle 0 inside)))

  given : IsGiven x f.choices (sequence x q)
  given = nominated_given k f.choices f.number candidates.choosing f.cost q middle_nominated

  module _ (o : Ordering) (reported : (u v : List ℕ) → ChoicesGive (with_choices x f.choices) (sequence x q) u → ChoicesGive (with_choices x f.choices) (sequence x p) v → o ≡ lexicographic u v) where
    pub to_prefix : is_lt o ≡ true → Between k f p low middle
    to_prefix e =
        let here : NotAfter x f.choices (sequence x q) (sequence x p) = λ u v h k greater. true≢false (sym e ∙ ap is_lt (reported u v h k ∙ greater)) in record {
          within = let lt = inside in omega (arith, lt);
          ordered = from;
          before = b.before;
          after = λ i le lt. elim (cases_lt middle i) [
            | inl later ↦ not_after_both x f.choices (sequence x (get_or f.sorted i 0)) (sequence x q) (sequence x p) given
                (subst (λ j. NotAfter x f.choices (sequence x (get_or f.sorted i 0)) (sequence x j)) at (candidates.order middle i later lt)) here
            | inr not ↦ let same : middle ≡ i = omega (arith, le, not) in
                subst (λ j. NotAfter x f.choices (sequence x j) (sequence x p)) (sym at ∙ ap (λ j. get_or f.sorted j 0) same) here
          ];
        }

    pub to_back : is_lt o ≡ false → Between k f p (middle + 1) high
    to_back e =
        let here : NotAfter x f.choices (sequence x p) (sequence x q) =
        λ u v h k greater. true≢false (sym (ap is_lt (reported v u k h ∙ nat_list_cmp_total.antisymm v u ∙ ap ordering_reverse greater)) ∙ e) in record {
          within = b.within;
          ordered = omega (arith, to);
          before = λ i lt. elim (cases_lt i middle) [
            | inl sooner ↦ not_after_both x f.choices (sequence x p) (sequence x q) (sequence x (get_or f.sorted i 0)) given here
                (subst (λ j. NotAfter x f.choices (sequence x j) (sequence x (get_or f.sorted i 0))) at (candidates.order i middle sooner inside))
            | inr not ↦ let same : middle ≡ i = omega (arith, lt, not) in
                subst (λ j. NotAfter x f.choices (sequence x p) (sequence x j)) (sym at ∙ ap (λ j. get_or f.sorted j 0) same) here
          ];
          after = b.after;
        }

-- one more waits, or one that gives nothing greater does
module _ (k : Known) (f : Candidates) (o : Nominating k f) (p : ℕ) (nominated : IsCandidate k f.choices f.number f.cost p) where
  abbrev candidates : AreCandidates k f
  candidates = o.candidates

  itself : GivesNoMore k.tables f.choices p p
  itself = holds_itself k.tables f.choices p (nominated_given k f.choices f.number candidates.choosing f.cost p nominated)

  one_more : (f' : Candidates) → f'.choices ≡ f.choices → ((q : ℕ) → Waits f q → Waits f' q) → Waits f' p → Handles k.tables (λ q. q ≡ p) f f'
  one_more f' same wider now q (inl old) = handled_wider k.tables f f' same wider q old
  one_more f' same wider now q (inr is) = subst (IsHandled k.tables f') (sym is) (inr (p, now, subst (λ l. GivesNoMore k.tables l p p) (sym same) itself))

  pub covered_adds : IsHandled k.tables f p → Adds k.tables (λ q. q ≡ p) 1 f f
  covered_adds handled = record {
    choices = refl;
    number = refl;
    cost = refl;
    handles = λ q h. elim h [ inl old ↦ old | inr is ↦ subst (IsHandled k.tables f) (sym is) handled ];
    together = omega arith;
  }

  module _ (q : ℕ) (e : get_or f.foremost (owner k.tables p) None ≡ Some q) (not : HasChoice f.choices (owner k.tables p) → ⊥) where
    it_waits : Waits f q
    it_waits = elim (o.foremost (owner k.tables p) q e).1 [ inl waits ↦ waits | inr has ↦ absurd (not has) ]

    pub foremost_nominated : IsCandidate k f.choices f.number f.cost q
    foremost_nominated = candidates.nominated q it_waits

    pub foremost_handled : NotAfter k.tables f.choices (sequence k.tables q) (sequence k.tables p) → IsHandled k.tables f p
    foremost_handled before = inr (q, it_waits, record { same = (o.foremost (owner k.tables p) q e).0; given = itself.given; before = before })

  abbrev with_ready : List ℕ → Candidates
  with_ready ready = record { choices = f.choices; number = f.number; cost = f.cost; ready = ready; sorted = f.sorted; foremost = f.foremost }

  module _ (ready : List ℕ) (e : ready ≡ f.ready ++ p ∷ []) where
    ready_more : (q : ℕ) → Contains ready q → Contains f.ready q ⊎ (p ≡ q)
    ready_more q h = Contains-push_cases f.ready p q (subst (λ l. Contains l q) e h)

    ready_wider : (q : ℕ) → Waits f q → Waits (with_ready ready) q
    ready_wider q (inl old) = inl (subst (λ l. Contains l q) (sym e) (Contains-append_left f.ready (p ∷ []) q old))
    ready_wider q (inr other) = inr other

    pub ready_in : is_sole k (owner k.tables p) ≡ true → Nominating k (with_ready ready) × Adds k.tables (λ q. q ≡ p) 1 f (with_ready ready)
    ready_in sole = (
      record {
        candidates = record {
          choosing = candidates.choosing;
          costs = candidates.costs;
          nominated = λ q h. elim h [
            | inl now ↦ elim (ready_more q now) [ inl old ↦ candidates.nominated q (inl old) | inr is ↦ subst (IsCandidate k f.choices f.number f.cost) is nominated ]
            | inr other ↦ candidates.nominated q (inr other)
          ];
          sole = λ q h. elim (ready_more q h) [ inl old ↦ candidates.sole q old | inr is ↦ subst (λ i. is_sole k (owner k.tables i) ≡ true) is sole ];
          several = candidates.several;
          order = candidates.order;
        };
        listed = o.listed;
        foremost = λ r q at. let (owned, where_is) = o.foremost r q at in (owned, elim where_is [ inl waits ↦ inl (ready_wider q waits) | inr has ↦ inr has ]);
      },
      record {
        choices = refl;
        number = refl;
        cost = refl;
        handles = one_more (with_ready ready) refl ready_wider (inl (subst (λ l. Contains l p) (sym e) (Contains-push f.ready p)));
        together = let long = length_push f.ready p in let len = ap length e in omega (arith, long, len);
      },
    )

  abbrev with_level : List ℕ → Candidates
  with_level list = record f {
    sorted = list;
    foremost = slice_set f.foremost (owner k.tables p) (Some p);
  }

  module _ (at : ℕ) (within : at ≤ length f.sorted)
      (before : (i : ℕ) → i < at → NotAfter k.tables f.choices (sequence k.tables p) (sequence k.tables (get_or f.sorted i 0)))
      (after : (i : ℕ) → at ≤ i → i < length f.sorted → NotAfter k.tables f.choices (sequence k.tables (get_or f.sorted i 0)) (sequence k.tables p)) where
    abbrev put : List ℕ
    put = insert f.sorted at p

    put_wider : (q : ℕ) → Waits f q → Waits (with_level put) q
    put_wider q (inl ready) = inl ready
    put_wider q (inr other) = inr ((insert_has f.sorted at p q).1 (inl other))

    put_now : Waits (with_level put) p
    put_now = inr ((insert_has f.sorted at p p).1 (inr refl))

    pub put_in : is_sole k (owner k.tables p) ≡ false → Nominating k (with_level put) × Adds k.tables (λ q. q ≡ p) 1 f (with_level put)
    put_in several = (
      record {
        candidates = record {
          choosing = candidates.choosing;
          costs = candidates.costs;
          nominated = λ q h. elim h [
            | inl ready ↦ candidates.nominated q (inl ready)
            | inr other ↦ elim ((insert_has f.sorted at p q).0 other) [ inl old ↦ candidates.nominated q (inr old) | inr is ↦ subst (IsCandidate k f.choices f.number f.cost) (sym is) nominated ]
          ];
          sole = candidates.sole;
          several = λ q h. elim ((insert_has f.sorted at p q).0 h) [ inl old ↦ candidates.several q old | inr is ↦ subst (λ i. is_sole k (owner k.tables i) ≡ false) (sym is) several ];
          order = λ i j lt short. insert_in_order (λ a b. NotAfter k.tables f.choices (sequence k.tables b) (sequence k.tables a)) 0 f.sorted at p within candidates.order before after i j lt
              (subst (λ m. j < m) (length-insert f.sorted at p within) short);
        };
        listed = length-set f.foremost (owner k.tables p) (Some p) ∙ o.listed;
        foremost = λ r q e. elim (get_or-set f.foremost (owner k.tables p) r (Some p) None) [
          | inl same ↦
              let (owned, where_is) = o.foremost r q (sym same ∙ e) in
              (owned, elim where_is [ inl waits ↦ inl (put_wider q waits) | inr has ↦ inr has ])
          | inr new ↦
              let is : p ≡ q = same_Some _ _ (sym new.1 ∙ e) in
              (ap (owner k.tables) (sym is) ∙ sym new.0, inl (subst (Waits (with_level put)) is put_now))
        ];
      },
      record {
        choices = refl;
        number = refl;
        cost = refl;
        handles = one_more (with_level put) refl put_wider put_now;
        together = let long = length-insert f.sorted at p within in omega (arith, long);
      },
    )

-- the code's lists as numbers, after a production was inserted
pub put_shown : {S : Type 0} (number : S → ℕ) (sorted : List (PIdx S)) (foremost : List (Option (PIdx S))) (f : Candidates) (at i r : ℕ) (p : PIdx S) → i ≡ r
    → (sorted' : List (PIdx S)) → sorted' ≡ insert sorted at p
    → ◌≡◌ {A = Candidates} (record { choices = f.choices; number = f.number; cost = f.cost; ready = f.ready; sorted = insert (production_numbers number sorted) at (number p.0); foremost = slice_set (map (production_number number) foremost) r (Some (number p.0)) })
    (record { choices = f.choices; number = f.number; cost = f.cost; ready = f.ready; sorted = production_numbers number sorted'; foremost = map (production_number number) (slice_set foremost i (Some p)) })
put_shown number sorted foremost f at i r p same sorted' e =
    let lists = sym (ap (production_numbers number) e ∙ insert_shown (λ p. number p.0) sorted at p) in
    let entries = sym (map-set (production_number number) foremost i (Some p) ∙ ap (λ j. slice_set (map (production_number number) foremost) j (Some (number p.0))) same) in
    ap (λ (l : List ℕ). record { choices = f.choices; number = f.number; cost = f.cost; ready = f.ready; sorted = l; foremost = slice_set (map (production_number number) foremost) r (Some (number p.0)) }) lists
    ∙ ap (λ (l : List (Option ℕ)). record { choices = f.choices; number = f.number; cost = f.cost; ready = f.ready; sorted = production_numbers number sorted'; foremost = l }) entries
