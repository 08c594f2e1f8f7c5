-- Candidates: what the choices give for them, and what one more choice changes.
use Rattle.std.proofs.Common.{◌≡◌, ℕ, ◌+◌, ◌<◌, ◌⊎◌, inl, inr, Bool, true, false, List, [], ◌∷◌, get_or, length, Option, Some, None, append-nil, arith, refl, sym, ap, subst, ◌∙◌, true≢false}
use Rattle.std.specs.Prelude.{IsSomeAnd}
use Rattle.std.specs.declared.cmp.Ordering.{Ordering}
use Rattle.std.specs.declared.cmp.Ordering.TheVariants.{Equal, Greater}
use Rattle.std.proofs.lemmas.Cmp.{nat_list_cmp_total, tied_itself}
use Rattle.std.proofs.lemmas.List.Elements.{Contains-get_or}
use Rattle.lemmas.proofs.Elements.{get_or-set}
use Rattle.derivation.specs.Grammar.{Sym, Rule}
use Rattle.cfgtables.proofs.Located.{at_position}
use Rattle.cfgleast.specs.Certificate.{rule_choice}
use Rattle.cfgchoices.specs.Choices.{ChoicesGive}
use Rattle.cfgchoices.specs.Choices as gives
use Rattle.cfgleast.specs.Generator.{CostTables, cost_answer}
use Rattle.cfgchoices.specs.Kinds.{IsChain}
use Rattle.cfgchoices.specs.FirstSentence.{lexicographic}
use Rattle.cfgchoices.specs.Inner.Candidates.{Choices, Choosing, Handles, HasChoice, IsDone, IsFloor, IsHandled, IsKnown, IsNext, IsCandidate, IsFreeOrChosenBelow, Known, AreCandidates, NotAfter, Nominating, Candidates, GivesNoMore, Waits, with_choices, is_sole, owner, sequence}
use Rattle.cfgchoices.proofs.Choices.{choices_once}
use Rattle.cfgchoices.proofs.Choosing.{answer_chosen, choosing_more, chosen_now, gives_below, target_gives, target_below, later, paid_chosen, below_kept}
use Rattle.lemmas.proofs.Contained.{contains_one}
use Rattle.cfgchoices.proofs.FirstChosen.{not_after}
use Rattle.cfgchoices.proofs.GrowingChoices.{Keeps, gives_kept, keeps_one}
use Rattle.cfgchoices.proofs.Optimal.{chains_target, one_cost, paid}

not_greater : (u v : List ℕ) → u ≡ v → lexicographic u v ≡ Greater → ⊥
not_greater u v e g = let no : ◌≡◌ {A = Ordering} Equal Greater = sym (tied_itself nat_list_cmp_total u) ∙ ap (lexicographic u) e ∙ g in cc

module _ (x : CostTables) where
  abbrev pub IsGiven : Choices → List Sym → Type 0
  IsGiven l a = (w : List ℕ) × ChoicesGive (with_choices x l) a w

  pub not_after_kept : (l l' : Choices) → Keeps l l' → (a b : List Sym) → IsGiven l a → IsGiven l b → NotAfter x l a b → NotAfter x l' a b
  not_after_kept l l' keeps a b (u', f) (v', g) before u v h k greater =
      let first = choices_once (with_choices x l') (gives_kept x l l' keeps f) h in
      let second = choices_once (with_choices x l') (gives_kept x l l' keeps g) k in
      before u' v' f g (ap (λ w. lexicographic w v') first ∙ ap (lexicographic u) second ∙ greater)

  pub not_after_both : (l : Choices) (a b c : List Sym) → IsGiven l b → NotAfter x l a b → NotAfter x l b c → NotAfter x l a c
  not_after_both l a b c (v, g) h k u w f i = not_after u v w (h u v f g) (k v w g i)

  pub holds_itself : (l : Choices) (p : ℕ) → IsGiven l (sequence x p) → GivesNoMore x l p p
  holds_itself l p given = record { same = refl; given = given; before = λ u v h k. not_greater u v (choices_once (with_choices x l) h k) }

  pub holds_kept : (l l' : Choices) → Keeps l l' → (p q : ℕ) → IsGiven l (sequence x p) → GivesNoMore x l p q → GivesNoMore x l' p q
  holds_kept l l' keeps p q given s = record {
    same = s.same;
    given = (s.given.0, gives_kept x l l' keeps s.given.1);
    before = not_after_kept l l' keeps (sequence x p) (sequence x q) given s.given s.before;
  }

  pub holds_done : (l : Choices) (p q : ℕ) → IsDone x l p → GivesNoMore x l p q → IsDone x l q
  holds_done l p q d s = record {
    chosen = subst (HasChoice l) s.same d.chosen;
    given = s.given;
    first = subst (λ r. NotAfter x l (Rule r ∷ []) (sequence x q)) s.same (not_after_both l (Rule (owner x p) ∷ []) (sequence x p) (sequence x q) d.given d.first s.before);
  }

  -- what waits still waits
  pub handled_wider : (f f' : Candidates) → f'.choices ≡ f.choices → ((q : ℕ) → Waits f q → Waits f' q) → (q : ℕ) → IsHandled x f q → IsHandled x f' q
  handled_wider f f' same wider q (inl done) = inl (subst (λ l. IsDone x l q) (sym same) done)
  handled_wider f f' same wider q (inr (p, waits, holds)) = inr (p, wider p waits, subst (λ l. GivesNoMore x l p q) (sym same) holds)

  module _ (l : Choices) (n : ℕ) (state : Choosing x l n) where
    pub chosen_below : (r : ℕ) → HasChoice l r → IsFreeOrChosenBelow x l n r
    chosen_below r ((p, m), e) = inr (subst (λ (o : Option (ℕ × ℕ)). IsSomeAnd o (λ choice. choice.1 < n)) (sym e) (state.each r p m e).1)

    pub choice_given : (r : ℕ) → HasChoice l r → IsGiven l (Rule r ∷ [])
    choice_given r h = gives_below x l n state n (Rule r ∷ [])
        (λ q among. let same : Rule r ≡ Rule q = contains_one (Rule r) (Rule q) among in let is : r ≡ q = cc in subst (IsFreeOrChosenBelow x l n) is (chosen_below r h))

    -- the choice of a rule gives what is given for the rule, and no more
    pub rule_gives : (r p m : ℕ) → rule_choice l r ≡ Some (p, m) → (w : List ℕ) → ChoicesGive (with_choices x l) (sequence x p) w → ChoicesGive (with_choices x l) (Rule r ∷ []) w
    rule_gives r p m e w h =
        let c = (state.each r p m e).0 in
        gives.chosen (paid_chosen x l n state r p m c) (answer_chosen x l n state r p m e c) h gives.empty (sym (append-nil w))

    pub sequence_gives : (r p m : ℕ) → rule_choice l r ≡ Some (p, m) → (w : List ℕ) → ChoicesGive (with_choices x l) (Rule r ∷ []) w → ChoicesGive (with_choices x l) (sequence x p) w
    sequence_gives r p m e w h =
        let (u, made) = gives_below x l n state m (sequence x p) (state.each r p m e).0.below in
        subst (ChoicesGive (with_choices x l) (sequence x p)) (choices_once (with_choices x l) (rule_gives r p m e u made) h) made

    pub choice_is_done : (p m : ℕ) → rule_choice l (owner x p) ≡ Some (p, m) → IsDone x l p
    choice_is_done p m e = record {
      chosen = ((p, m), e);
      given = gives_below x l n state m (sequence x p) (state.each (owner x p) p m e).0.below;
      first = λ u v h k. not_greater u v (choices_once (with_choices x l) h (rule_gives (owner x p) p m e v k));
    }

    pub done_kept : (l' : Choices) → Keeps l l' → (p : ℕ) → IsDone x l p → IsDone x l' p
    done_kept l' keeps p d = record {
      chosen = (d.chosen.0, keeps (owner x p) d.chosen.0 d.chosen.1);
      given = (d.given.0, gives_kept x l l' keeps d.given.1);
      first = not_after_kept l l' keeps (Rule (owner x p) ∷ []) (sequence x p) (choice_given (owner x p) d.chosen) d.given d.first;
    }

pub nominated_given : (k : Known) (l : Choices) (n : ℕ) → Choosing k.tables l n → (c p : ℕ) → IsCandidate k l n c p → IsGiven k.tables l (sequence k.tables p)
nominated_given k l n state c p o = gives_below k.tables l n state n (sequence k.tables p) o.below

module _ (k : Known) (n : ℕ) (is : IsKnown k n) where
  abbrev x : CostTables
  x = k.tables

  -- if the rule has a choice, a candidate of it is done
  pub was_chosen : (f : Candidates) (p : ℕ) → AreCandidates k f → IsCandidate k f.choices f.number f.cost p → HasChoice f.choices (owner x p) → IsDone x f.choices p
  was_chosen f p candidates nominated has = go (is_sole k (owner x p)) refl
    where
      go : (b : Bool) → is_sole k (owner x p) ≡ b → IsDone x f.choices p
      go true e =
          let ((q, m), chosen) = has in
          let c = (candidates.choosing.each (owner x p) q m chosen).0 in
          let same = is.sole (owner x p) e q p c.optimal nominated.optimal c.owner refl in
          choice_is_done x f.choices f.number candidates.choosing p m (chosen ∙ ap (λ (r : ℕ). Some (r, m)) same)
      go false e = record {
        chosen = has;
        given = nominated_given k f.choices f.number candidates.choosing f.cost p nominated;
        first = nominated.floor (owner x p) has (nominated.optimal.rule ∙ ap Some nominated.cost) e;
      }

  -- a choice is made
  module _ (f : Candidates) (p : ℕ) (candidates : AreCandidates k f) (next : IsNext k f p) (unset : rule_choice f.choices (owner x p) ≡ None) (within : owner x p < x.grammar.rules) where
    abbrev l : Choices
    l = f.choices

    abbrev pub chosen : Choices
    chosen = later x l f.number (owner x p) p candidates.choosing unset within next.nominated.optimal refl next.nominated.below

    abbrev pub choosing : Choosing x chosen (f.number + 1)
    choosing = choosing_more x l f.number (owner x p) p candidates.choosing unset within next.nominated.optimal refl next.nominated.below

    costs_now : cost_answer x (owner x p) ≡ Some f.cost
    costs_now = next.nominated.optimal.rule ∙ ap Some next.nominated.cost

    now : rule_choice chosen (owner x p) ≡ Some (p, f.number)
    now = chosen_now x l f.number (owner x p) p candidates.choosing unset within next.nominated.optimal refl next.nominated.below

    keeps : Keeps l chosen
    keeps = keeps_one l (owner x p) (p, f.number) unset

    -- a choice is an old one, or this
    cases : (r : ℕ) → HasChoice chosen r → HasChoice l r ⊎ (r ≡ owner x p)
    cases r (choice, e) = elim (get_or-set l (owner x p) r (Some (p, f.number)) None) [ inl same ↦ inl (choice, sym same ∙ e) | inr is ↦ inr is.0 ]

    abbrev pub with_choice : Candidates
    with_choice = record { choices = chosen; number = f.number + 1; cost = f.cost; ready = f.ready; sorted = f.sorted; foremost = f.foremost }

    mine : IsGiven x l (sequence x p)
    mine = nominated_given k l f.number candidates.choosing f.cost p next.nominated

    given : (q : ℕ) → Waits f q → IsGiven x l (sequence x q)
    given q h = nominated_given k l f.number candidates.choosing f.cost q (candidates.nominated q h)

    done : IsDone x chosen p
    done = choice_is_done x chosen (f.number + 1) choosing p f.number now

    floor_kept : (q : ℕ) → Waits f q → IsFloor k chosen f.cost q
    floor_kept q h r has costs several = elim (cases r has) [
      | inl old ↦ not_after_kept x l chosen keeps (Rule r ∷ []) (sequence x q) (choice_given x l f.number candidates.choosing r old) (given q h) ((candidates.nominated q h).floor r old costs several)
      | inr is ↦ elim next.least [
        | inl sole ↦ absurd (true≢false (sym sole ∙ ap (is_sole k) (sym is) ∙ several))
        | inr least ↦ subst (λ s. NotAfter x chosen (Rule s ∷ []) (sequence x q)) (sym is)
            (not_after_both x chosen (Rule (owner x p) ∷ []) (sequence x p) (sequence x q) done.given done.first (not_after_kept x l chosen keeps (sequence x p) (sequence x q) mine (given q h) (least q h)))
      ]
    ]

    candidates_chosen : AreCandidates k with_choice
    candidates_chosen = record {
      choosing = choosing;
      costs = λ r h. elim (cases r h) [
        | inl old ↦ candidates.costs r old
        | inr is ↦ (f.cost, ap (cost_answer x) is ∙ costs_now, omega arith)
      ];
      nominated = λ q h.
          let o = candidates.nominated q h in record {
            optimal = o.optimal;
            cost = o.cost;
            below = λ r i. below_kept x l chosen keeps r f.number (f.number + 1) (omega arith) (o.below r i);
            floor = floor_kept q h;
          };
      sole = candidates.sole;
      several = candidates.several;
      order = λ i j lt short.
          let at = λ (m : ℕ) (h : m < length f.sorted). given (get_or f.sorted m 0) (inr (Contains-get_or f.sorted m 0 h)) in
          not_after_kept x l chosen keeps _ _ (at j short) (at i (omega (arith, lt, short))) (candidates.order i j lt short);
    }

    pub nominating_chosen : length f.foremost ≡ x.grammar.rules
        → ((r q : ℕ) → get_or f.foremost r None ≡ Some q → (owner x q ≡ r) × (Waits f q ⊎ HasChoice l r ⊎ (q ≡ p))) → Nominating k with_choice
    nominating_chosen listed foremost = record {
      candidates = candidates_chosen;
      listed = listed;
      foremost = λ r q e.
          let (at, where_is) = foremost r q e in (
            at,
            elim where_is [
              | inl waits ↦ inl waits
              | inr other ↦ inr (elim other [
                | inl has ↦ (has.0, keeps r has.0 has.1)
                | inr same ↦ subst (HasChoice chosen) (ap (owner x) (sym same) ∙ at) ((p, f.number), now)
              ])
            ],
          );
    }

    -- the chain productions that lead to the rule can be candidates
    pub target_nominated : (q : ℕ) → IsChain x q (owner x p) → IsCandidate k chosen (f.number + 1) f.cost q
    target_nominated q target =
        let links = chains_target x n is.generator is.grammar q (owner x p) target in record {
          optimal = target.optimal;
          cost = one_cost x (owner x p) target.optimal.cost f.cost target.same costs_now;
          below = target_below x chosen q (owner x p) (f.number + 1) links (subst (λ (o : Option (ℕ × ℕ)). IsSomeAnd o (λ choice. choice.1 < f.number + 1)) (sym now) (omega arith));
          floor = λ r has costs several u v g h.
              let back = target_gives x chosen (owner x p) v links (paid x n is.generator is.grammar (owner x q) (sequence x q) (at_position x.grammar q _ target.optimal.index refl refl)) h in
              elim (cases r has) [
                | inl old ↦ not_after_kept x l chosen keeps (Rule r ∷ []) (sequence x p) (choice_given x l f.number candidates.choosing r old) mine (next.nominated.floor r old costs several)
                    u v g (sequence_gives x chosen (f.number + 1) choosing (owner x p) p f.number now v back)
                | inr is ↦ not_greater u v (choices_once (with_choices x chosen) (subst (λ s. ChoicesGive (with_choices x chosen) (Rule s ∷ []) u) is g) back)
              ];
        }

    pub handled_chosen : (q : ℕ) → IsHandled x f q ⊎ GivesNoMore x l p q → IsHandled x with_choice q
    handled_chosen q (inl (inl old)) = inl (done_kept x l f.number candidates.choosing chosen keeps q old)
    handled_chosen q (inl (inr (r, waits, holds))) = inr (r, waits, holds_kept x l chosen keeps r q (given r waits) holds)
    handled_chosen q (inr holds) = inl (holds_done x chosen p q done (holds_kept x l chosen keeps p q mine holds))

    pub chains_chosen : (f' : Candidates) → f'.choices ≡ chosen → Handles x (λ q. IsChain x q (owner x p)) with_choice f'
        → ((q r : ℕ) → IsChain x q r → HasChoice l r → IsHandled x f q ⊎ GivesNoMore x l p q) → (q r : ℕ) → IsChain x q r → HasChoice f'.choices r → IsHandled x f' q
    chains_chosen f' same handles chains q r target has = elim (cases r (subst (λ m. HasChoice m r) same has)) [
      | inl old ↦ handles q (inl (handled_chosen q (chains q r target old)))
      | inr is ↦ handles q (inr (subst (IsChain x q) is target))
    ]
