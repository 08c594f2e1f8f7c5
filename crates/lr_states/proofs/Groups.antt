-- Steps that are taken apart by their symbols, one symbol after another.
use Rattle.std.proofs.Common.{◌≡◌, inl, inr, ℕ, ◌+◌, ◌<◌, ◌≤◌, ◌-◌, true, false, List, [], ◌∷◌, ◌++◌, Contains, Some, append-nil, append_assoc, drop, get_or, leb, length, refl, slice_get, sym, ap, subst, take, ◌∙◌, arith}
use Rattle.std.specs.List.Sorted.{IsNonDecreasingBy, IsPartitionPoint}
use Rattle.std.proofs.Math.Seq.{drop-append_seam}
use Rattle.std.proofs.lemmas.Bool.{cases_lt, leb-false, leb-true}
use Rattle.std.proofs.lemmas.List.{get_or-drop, get_or-take, length-drop, length-map, length-take-le, nil_from_length, take-append-drop}
use Rattle.std.proofs.lemmas.List.Elements.{Contains-append_cases, Contains-append_left, Contains-append_right}
use Rattle.std.proofs.lemmas.List.Sorted.{IsNonDecreasingBy-drop}
use Rattle.std.proofs.lemmas.Option.{get_or_from_slice_get, slice_get_within}
use Rattle.cfgrammar.proofs.Contained.{contains_first, contains_none}
use Rattle.lr_states.specs.declared.Item.{Item}
use Rattle.lr_states.specs.declared.kernels.Target.{Target}
use Rattle.lr_states.specs.declared.successors.Step.{Step}
use Rattle.lr_states.specs.Inner.Kernels.{Adds, AreTargets, IsAmong, IsOne}
use Rattle.lr_states.specs.Inner.Steps.{IsFirstGroup, items_by, items_of}
use Rattle.lr_states.proofs.Added.{IsExtended, adds_none, among_more, targets_more}
use Rattle.lr_states.proofs.ItemsBy.{items_by-append, items_by_all, items_by_none, step_by}

some_step : (steps : List Step) → 0 < length steps → (step : Step) × Contains steps step
some_step [] some = absurd (omega (arith, some))
some_step (x ∷ xs) some = (x, contains_first x xs)

-- the first group ends where greater symbols begin
pub first_grouped : (steps : List Step) → IsNonDecreasingBy (λ (s : Step). s.symbol) steps → (first : Step) → slice_get steps 0 ≡ Some first → (end : ℕ) → end ≤ length steps
    → IsPartitionPoint (λ (s : Step). leb s.symbol first.symbol ≡ true) (λ (s : Step). leb s.symbol first.symbol ≡ false) steps end
    → (group others : List Step) → group ≡ take end steps → others ≡ drop end steps → IsFirstGroup steps first.symbol group others
first_grouped steps rising first at_first end most (low, high) group others front back =
    subst (IsFirstGroup steps first.symbol group) (sym back) (subst (λ l. IsFirstGroup steps first.symbol l (drop end steps)) (sym front) (record {
      whole = sym (take-append-drop end steps);
      some = omega (arith, long, some, most);
      same = λ s (k, within, at).
          let here : k < end = omega (arith, long, within) in
          let up = rising 0 k s (omega arith) (omega (arith, here, most)) in
          let down = leb-true _ _ (low k s (omega arith) here) in
          let start = ap (λ (z : Step). z.symbol) (get_or_from_slice_get steps 0 first s at_first) in
          let is = ap (λ (z : Step). z.symbol) (sym (get_or-take end steps k s here) ∙ at) in
          omega (arith, up, down, start, is);
      later = λ s (k, within, at).
          let up = leb-false _ _ (high (end + k) s (omega arith) (omega (arith, short, within))) in
          let is = ap (λ (z : Step). z.symbol) (sym (get_or-drop end steps k s) ∙ at) in
          omega (arith, up, is);
    }))
  where
    long : length (take end steps) ≡ end
    long = length-take-le end steps most

    short : length (drop end steps) ≡ length steps - end
    short = length-drop end steps

    some : 0 < end
    some = elim (cases_lt 0 end) [
      | inl more ↦ more
      | inr none ↦
          let own = ap (λ (z : Step). z.symbol) (get_or_from_slice_get steps 0 first first at_first) in
          let past = leb-false _ _ (high 0 first none (slice_get_within steps 0 first at_first)) in
          absurd (omega (arith, own, past))
    ]

-- The steps before the rest are by symbols before its own. Their items are kernels, which are the states of the targets.
pub record AreGrouped (steps rest : List Step) (old new : List (List Item)) (targets : List Target) : Type 0 where
  pub done : List Step
  pub whole : steps ≡ done ++ rest
  pub rising : IsNonDecreasingBy (λ (s : Step). s.symbol) rest
  pub apart : (x y : Step) → Contains done x → Contains rest y → x.symbol < y.symbol
  pub adds : Adds (IsAmong (items_by done)) old new
  pub are_targets : AreTargets (items_by done) new targets

pub grouped_none : (steps : List Step) → IsNonDecreasingBy (λ (s : Step). s.symbol) steps → (kernels : List (List Item)) (targets : List Target) → targets ≡ []
    → AreGrouped steps steps kernels kernels targets
grouped_none steps rising kernels targets none = subst (AreGrouped steps steps kernels kernels) (sym none) (record {
  done = [];
  whole = refl;
  rising = rising;
  apart = λ x y h there. absurd (contains_none x h);
  adds = adds_none (IsAmong (items_by [])) kernels;
  are_targets = record {
    sound = λ t h. absurd (contains_none t h);
    all = λ node some. absurd (omega (arith, some));
    ascending = tt;
  };
})

module _ (steps rest : List Step) (old mid : List (List Item)) (targets : List Target) (are : AreGrouped steps rest old mid targets) where
  pub grouped_more : (symbol : ℕ) (group others : List Step) → IsFirstGroup rest symbol group others → (new : List (List Item)) → Adds (IsOne (items_of group)) mid new
      → (r : ℕ) → r < length new → get_or new r [] ≡ items_of group → (more : List Target) → more ≡ targets ++ (record { symbol = symbol; state = r }) ∷ []
      → AreGrouped steps others old new more
  grouped_more symbol group others first new adds r within at more is = record {
    done = are.done ++ group;
    whole = are.whole ∙ ap (λ l. are.done ++ l) first.whole ∙ sym (append_assoc are.done group others);
    rising = subst (IsNonDecreasingBy (λ (s : Step). s.symbol)) (ap (drop (length group)) first.whole ∙ drop-append_seam group others)
        (IsNonDecreasingBy-drop (λ (s : Step). s.symbol) (length group) rest are.rising);
    apart = λ x y h later. elim (Contains-append_cases are.done group x h) [
      | inl early ↦ are.apart x y early (subst (λ l. Contains l y) (sym first.whole) (Contains-append_right group others y later))
      | inr here ↦ let same = first.same x here in let less = first.later y later in omega (arith, same, less)
    ];
    adds = among_more (items_by are.done) (items_by (are.done ++ group)) symbol (items_of group) extended old mid new are.adds adds;
    are_targets = targets_more (items_by are.done) (items_by (are.done ++ group)) symbol (items_of group) extended filled (IsOne (items_of group)) mid new adds targets are.are_targets
        below r within at more is;
  }
    where
      before : (x : Step) → Contains are.done x → x.symbol < symbol
      before x h =
          let (y, among) = some_step group first.some in
          let less = are.apart x y h (subst (λ l. Contains l y) (sym first.whole) (Contains-append_left group others y among)) in
          let same = first.same y among in
          omega (arith, less, same)

      extended : IsExtended (items_by are.done) (items_by (are.done ++ group)) symbol (items_of group)
      extended =
          let none : items_by are.done symbol ≡ [] = items_by_none are.done symbol (λ x h same. let less = before x h in omega (arith, less, same)) in
          record {
            none = none;
            here = items_by-append are.done group symbol ∙ ap (λ l. l ++ items_by group symbol) none ∙ items_by_all group symbol first.same;
            elsewhere = λ node apart. items_by-append are.done group node
                ∙ ap (λ l. items_by are.done node ++ l) (items_by_none group node (λ x h same. apart (sym same ∙ first.same x h))) ∙ append-nil (items_by are.done node);
          }

      filled : 0 < length (items_of group)
      filled = let long = length-map group (λ (s : Step). s.item) in let some = first.some in omega (arith, long, some)

      below : (t : Target) → Contains targets t → t.symbol < symbol
      below t h =
          let (x, among, is) = step_by are.done t.symbol (are.are_targets.sound t h).some in
          let less = before x among in
          omega (arith, less, is)

  pub grouped_all : length rest ≡ 0 → Adds (IsAmong (items_by steps)) old mid × AreTargets (items_by steps) mid targets
  grouped_all none =
      let all : are.done ≡ steps = sym (are.whole ∙ ap (λ l. are.done ++ l) (nil_from_length rest none) ∙ append-nil are.done) in
      (subst (λ l. Adds (IsAmong (items_by l)) old mid) all are.adds, subst (λ l. AreTargets (items_by l) mid targets) all are.are_targets)
