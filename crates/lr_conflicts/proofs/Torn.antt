-- Where two things are left, and the conflicts that were listed so far.
use Rattle.std.proofs.Common.{◌≡◌, ◌↔◌, ◌⊎◌, inl, inr, ℕ, ◌+◌, ◌<◌, ◌≤◌, Bool, true, false, List, [], ◌∷◌, ◌++◌, Contains, IsTrue, cond, get_or, length, refl, sym, ap, subst, ◌∙◌, arith}
use mir.Val.{bool_byte}
use Rattle.std.specs.Prelude.{slice_index}
use Rattle.std.proofs.lemmas.Bool.{cases_Bool, cases_eq, cases_lt}
use Rattle.std.proofs.lemmas.List.{get_or_default, length-map}
use Rattle.std.proofs.lemmas.List.Elements.{Contains-append_left, Contains-get_or, Contains-push, Contains-push_cases}
use Rattle.std.proofs.lemmas.Option.{slice_get_within}
use Rattle.cfgrammar.specs.Associativity.{Associativity}
use Rattle.cfgrammar.specs.Grammar.{Token}
use Rattle.cfgrammar.specs.Numbered.{Numbered, core}
use Rattle.cfgrammar.specs.Openings.{nth_production}
use Rattle.cfgrammar.proofs.Contained.{contains_first, contains_later, contains_none}
use Rattle.lr_states.specs.Automaton.{Automaton}
use Rattle.lr_states.specs.Viable.{HasNext}
use Rattle.lr_states.specs.declared.Item.{Item}
use Rattle.lr_conflicts.specs.Conflicts.{AreConflicts, AreSorted, CanReduce, CanShift, IsBefore, IsConflict, IsEntered, IsShifted, IsTorn, accepts, items_of, next, read_item, reduce_reduce, shift_reduce}
use Rattle.lr_conflicts.specs.Inner.Choices.{AreReductions}
use Rattle.lr_conflicts.specs.Inner.Listed.{AreListed, AreReduced, IsEarlier}
use Rattle.lr_conflicts.specs.declared.Conflict.{Conflict}
use Rattle.lr_conflicts.specs.declared.parser.Reduction.{Reduction}

pub byte_is : (b : Bool) → bool_byte b ≡ cond b 1 0
byte_is true = refl
byte_is false = refl

-- two different elements
two_different : {A : Type 0} (xs : List A) (x y : A) → Contains xs x → Contains xs y → (x ≡ y → ⊥) → 2 ≤ length xs
two_different xs x y (i, within, at) (j, inside, other) apart = elim (cases_lt (length xs) 2) [
  | inl few ↦
      let same : i ≡ j = omega (arith, within, inside, few) in
      absurd (apart (sym at ∙ get_or_default xs i x y within ∙ ap (λ k. get_or xs k y) same ∙ other))
  | inr many ↦ many
]

module _ (g : Numbered) (levels : List Associativity) (items : List Item) where
  module _ (t : ℕ) where
    module _ (productions : List ℕ) (are : AreReduced g levels items t productions) (shifts : Bool) (shifted : IsTrue shifts ↔ IsShifted g levels items t) where
      pub torn_by : (n : ℕ) → n ≡ length productions + cond shifts 1 0 → 2 ≤ n → IsTorn g levels items t
      torn_by n is many = elim (cases_Bool shifts) [
        | inl on ↦
            let some : 0 < length productions = let one : cond shifts 1 0 ≡ 1 = ap {B = ℕ} (λ b. cond b 1 0) on in omega (arith, is, many, one) in
            shift_reduce (shifted.0 on) (slice_index productions 0) ((are.all (slice_index productions 0)).0 (Contains-get_or productions 0 0 some))
        | inr off ↦
            let none : cond shifts 1 0 ≡ 0 = ap {B = ℕ} (λ b. cond b 1 0) off in
            let two : 1 < length productions = omega (arith, is, many, none) in
            let some : 0 < length productions = omega (arith, is, many, none) in
            reduce_reduce (slice_index productions 0) (slice_index productions 1) (are.ascending 0 two)
            ((are.all (slice_index productions 0)).0 (Contains-get_or productions 0 0 some))
            ((are.all (slice_index productions 1)).0 (Contains-get_or productions 1 0 two))
      ]

      pub torn_many : IsTorn g levels items t → (n : ℕ) → n ≡ length productions + cond shifts 1 0 → 2 ≤ n
      torn_many (shift_reduce shift p reduced) n is =
          let (k, within, at) = (are.all p).1 reduced in
          let one : cond shifts 1 0 ≡ 1 = ap {B = ℕ} (λ b. cond b 1 0) (shifted.1 shift) in omega (arith, is, one, within)
      torn_many (reduce_reduce p other smaller reduced other_reduced) n is =
          let many = two_different productions p other ((are.all p).1 reduced) ((are.all other).1 other_reduced) (λ same. omega (arith, smaller, same)) in
          omega (arith, is, many)

    -- a production that is read has no next symbol
    read_ends : (p : ℕ) (item : Item) → item ≡ read_item g p → HasNext (core g) item (Token t) → ⊥
    read_ends p item is at =
        let there = subst (λ i. HasNext (core g) i (Token t)) is at in
        let within = slice_get_within (nth_production (core g) p).symbols (length (nth_production (core g) p).symbols) (Token t) there in
        omega (arith, within)

    -- a single item is not in conflict with itself
    pub one_item : length items < 2 → IsTorn g levels items t → ⊥
    one_item few (shift_reduce shift p reduced) = apart shift.shift
      where
        apart : CanShift g levels items t → ⊥
        apart (next item among at) =
            let many = two_different items item (read_item g p) among reduced.reduces.read (λ same. read_ends p item same at) in omega (arith, few, many)
        apart (accepts among end) =
            let many = two_different items (read_item g g.start_production) (read_item g p) among reduced.reduces.read
            (λ same. reduced.reduces.ours (sym (ap (λ (i : Item). i.production) same))) in omega (arith, few, many)
    one_item few (reduce_reduce p other smaller reduced other_reduced) =
        let many = two_different items (read_item g p) (read_item g other) reduced.reduces.read other_reduced.reduces.read
        (λ same. let equal = ap (λ (i : Item). i.production) same in omega (arith, smaller, equal)) in omega (arith, few, many)

    -- nor is anything where nothing can be reduced
    pub none_reduced : (rs : List Reduction) → AreReductions g levels items rs → length rs ≡ 0 → IsTorn g levels items t → ⊥
    none_reduced rs are none torn = absurd (empty (reduced torn))
      where
        reduced : IsTorn g levels items t → (p : ℕ) × CanReduce g levels items t p
        reduced (shift_reduce shift p h) = (p, h.reduces)
        reduced (reduce_reduce p other smaller h other_h) = (p, h.reduces)

        empty : (p : ℕ) × CanReduce g levels items t p → ⊥
        empty (p, h) = let (k, within, at) = are.all t p h in let long = length-map rs (λ (r : Reduction). r.production) in omega (arith, within, long, none)

sorted_push : (xs : List Conflict) (x : Conflict) → AreSorted xs → ((y : Conflict) → Contains xs y → IsBefore y x) → AreSorted (xs ++ x ∷ [])
sorted_push [] x sorted before = ((λ y h. absurd (contains_none y h)), tt)
sorted_push (a ∷ xs) x sorted before = (
  (λ y h. elim (Contains-push_cases xs x y h) [
    | inl early ↦ sorted.0 y early
    | inr last ↦ subst (IsBefore a) last (before a (contains_first a xs))
  ]),
  sorted_push xs x sorted.1 (λ y h. before y (contains_later a y xs h)),
)

module _ (g : Numbered) (levels : List Associativity) (x : Automaton) where
  module _ (q t : ℕ) (conflicts : List Conflict) (listed : AreListed g levels x q t conflicts) where
    further : (a b : ℕ) → IsEarlier g levels x q t a b → IsEarlier g levels x q (t + 1) a b
    further a b h = elim h [ inl less ↦ inl less | inr same ↦ let low = same.1 in inr (same.0, omega (arith, low)) ]

    -- what is before the next token is before this one, or is this one
    nearer : (a b : ℕ) → IsEarlier g levels x q (t + 1) a b → IsEarlier g levels x q t a b ⊎ ((a ≡ q) × (b ≡ t))
    nearer a b h = elim h [
      | inl less ↦ inl (inl less)
      | inr same ↦ elim (cases_eq b t) [
        | inl here ↦ inr (same.0, here)
        | inr apart ↦ let low = same.1 in inl (inr (same.0, omega (arith, low, apart)))
      ]
    ]

    pub listed_skip : (IsTorn g levels (items_of x q) t → ⊥) → AreListed g levels x q (t + 1) conflicts
    listed_skip none = record {
      each = listed.each;
      early = λ c h. further c.state c.token (listed.early c h);
      all = λ a b h entered within torn. elim (nearer a b h) [
        | inl before ↦ listed.all a b before entered within torn
        | inr here ↦ absurd (none (subst (λ n. IsTorn g levels (items_of x q) n) here.1 (subst (λ n. IsTorn g levels (items_of x n) b) here.0 torn)))
      ];
      sorted = listed.sorted;
    }

    pub listed_more : (c : Conflict) → c.state ≡ q → c.token ≡ t → IsConflict g levels x c → (new : List Conflict) → new ≡ conflicts ++ c ∷ [] → AreListed g levels x q (t + 1) new
    listed_more c state token conflict new is = subst (AreListed g levels x q (t + 1)) (sym is) (record {
      each = λ d h. elim (Contains-push_cases conflicts c d h) [ inl early ↦ listed.each d early | inr same ↦ subst (IsConflict g levels x) same conflict ];
      early = λ d h. elim (Contains-push_cases conflicts c d h) [
        | inl early ↦ further d.state d.token (listed.early d early)
        | inr same ↦ subst (λ (e : Conflict). IsEarlier g levels x q (t + 1) e.state e.token) same (inr (state, omega (arith, token)))
      ];
      all = λ a b h entered within torn. elim (nearer a b h) [
        | inl before ↦
            let (d, among, there, at) = listed.all a b before entered within torn in
            (d, Contains-append_left conflicts (c ∷ []) d among, there, at)
        | inr here ↦ (c, Contains-push conflicts c, state ∙ sym here.0, token ∙ sym here.1)
      ];
      sorted = sorted_push conflicts c listed.sorted (λ d h. elim (listed.early d h) [
        | inl less ↦ inl (omega (arith, less, state))
        | inr same ↦ let equal = same.0 in let low = same.1 in inr (equal ∙ sym state, omega (arith, low, token))
      ]);
    })

  module _ (q : ℕ) (conflicts : List Conflict) where
    -- all tokens of a state, where there is no conflict at the others
    pub listed_row : (t : ℕ) → AreListed g levels x q t conflicts → ((b : ℕ) → t ≤ b → b < length g.tokens → IsEntered g levels x q → IsTorn g levels (items_of x q) b → ⊥)
        → AreListed g levels x (q + 1) 0 conflicts
    listed_row t listed none = record {
      each = listed.each;
      early = λ c h. elim (listed.early c h) [ inl less ↦ inl (omega (arith, less)) | inr same ↦ let equal = same.0 in inl (omega (arith, equal)) ];
      all = λ a b h entered within torn. elim h [
        | inl less ↦ elim (cases_eq a q) [
          | inl same ↦ elim (cases_lt b t) [
            | inl before ↦ listed.all a b (inr (same, before)) entered within torn
            | inr past ↦ absurd (none b past within (subst (IsEntered g levels x) same entered) (subst (λ n. IsTorn g levels (items_of x n) b) same torn))
          ]
          | inr apart ↦ listed.all a b (inl (omega (arith, less, apart))) entered within torn
        ]
        | inr never ↦ let less = never.1 in absurd (omega (arith, less))
      ];
      sorted = listed.sorted;
    }

    -- all states
    pub listed_all : AreListed g levels x q 0 conflicts → length x.states ≤ q → AreConflicts g levels x conflicts
    listed_all listed most = record {
      each = listed.each;
      all = λ a b entered within torn. listed.all a b (inl (let there = entered.within in omega (arith, there, most))) entered within torn;
      sorted = listed.sorted;
    }
