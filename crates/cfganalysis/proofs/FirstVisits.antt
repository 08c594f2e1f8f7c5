-- FIRST sets: what lists begin with, when the sets are complete, and a visit, which adds what a production gives symbol by symbol.
use Rattle.std.proofs.Common.{◌≡◌, ℕ, suc, inl, inr, true, false, List, [], ◌∷◌, ◌++◌, Contains, arith, refl, sym, ◌∙◌, true≢false, Bool, get_or, length, ap, subst, length-set, ◌+◌, ◌<◌, ◌≤◌, ◌⊎◌, ◌||◌, take, drop, slice_set, IsTrue, MatchBool, get_or-set_same}
use Rattle.std.proofs.lemmas.List.{get_or_default, length-replicate, take_more, take-append-drop, take_all, set-get_or}
use Rattle.std.proofs.lemmas.Bool.{cases_eq, or_parts}
use Rattle.lemmas.proofs.Elements.{get_or-set, get_or-replicate_default}
use Rattle.lemmas.proofs.Passes.{grown}
use Rattle.derivation.specs.Grammar.{Sym, Rule, Token, Grammar, Production, HasProduction, IsGrammar}
use Rattle.derivation.specs.FirstSets.{AreNullable, Begins, Covers, IsClosed}
use Rattle.derivation.specs.First.{First, Nullable}
use Rattle.derivation.proofs.Firsts.{nullable_map, begins_map, closed_first, closed_empty, derived_closed, nullable_parts, nullable_both, begins_parts}
use Rattle.search.proofs.Bits.{bit_put, bits_on-fewer, bits_on-set}
use Rattle.cfgtables.proofs.Located.{owner}
use Rattle.cfgsets.specs.FirstSets.{FirstSets, IsAmongFirsts, IsNullableRule, nullable_bit, AreNullableBy, is_nullable_symbol, AreSoundFirsts, BeginsBy, count_firsts}
use Rattle.cfganalysis.specs.Firsts.{AreFirsts}
use Rattle.cfganalysis.specs.Inner.GrowingFirsts.{CoverFirstsOf, no_firsts, with_nullable, HasNoMoreFirsts, ProductionRefers}
use Rattle.cfgsets.specs.Table.{IsTable, Joins, bits_on}
use Rattle.cfgsets.specs.Growth.{CoversEach, AddsProduction}
use Rattle.cfgsets.proofs.Beginnings.{begins_past, begins_prefix, nullable_alone, stays_alone}
use Rattle.cfgsets.proofs.Joins.{bit-no_bits, IsTable-no_bits, count_of-fewer}
use Rattle.cfgsets.specs.Waiting.{Waits, NoneWaits}

-- what is in a list's rest is in the list
contains_rest : (s : Sym) (a : List Sym) (x : Sym) → Contains a x → Contains (s ∷ a) x
contains_rest s a x h = (suc h.0, omega (arith, h.1), h.2)

-- what is true of the list's rules is enough
pub nullable_among : (E E' : ℕ → Type 0) (a : List Sym) → ((r : ℕ) → Contains a (Rule r) → E r → E' r) → AreNullable E a → AreNullable E' a
nullable_among E E' [] f h = tt
nullable_among E E' (Token u ∷ a) f h = absurd h
nullable_among E E' (Rule r ∷ a) f h = (f r (0, omega arith, refl) h.0, nullable_among E E' a (λ q k. f q (contains_rest (Rule r) a (Rule q) k)) h.1)

pub begins_among : (E E' : ℕ → Type 0) (F F' : ℕ → ℕ → Type 0) (a : List Sym) (t : ℕ) → ((r : ℕ) → Contains a (Rule r) → E r → E' r)
    → ((r : ℕ) → Contains a (Rule r) → F r t → F' r t) → Begins E F a t → Begins E' F' a t
begins_among E E' F F' [] t f k h = absurd h
begins_among E E' F F' (Token u ∷ a) t f k h = h
begins_among E E' F F' (Rule r ∷ a) t f k (inl h) = inl (k r (0, omega arith, refl) h)
begins_among E E' F F' (Rule r ∷ a) t f k (inr h) = inr (
  f r (0, omega arith, refl) h.0,
  begins_among E E' F F' a t (λ q j. f q (contains_rest (Rule r) a (Rule q) j)) (λ q j. k q (contains_rest (Rule r) a (Rule q) j)) h.1,
)

-- sets to which a production adds what it gives
module _ (g : Grammar) (rule : ℕ) (symbols : List Sym) (has : HasProduction g rule symbols) where
  closed : Covers (Nullable (HasProduction g)) (First (HasProduction g)) rule symbols
  closed = derived_closed (HasProduction g) rule symbols has

  -- what the production's symbols begin with is what derivations show
  pub say_first : (x new : FirstSets) (gives : ℕ → ℕ → Type 0) (changed : Bool) → AreSoundFirsts g x → new.nullable ≡ x.nullable
      → Joins gives x.firsts new.firsts changed → ((r t : ℕ) → gives r t → (r ≡ rule) × BeginsBy x symbols t) → AreSoundFirsts g new
  say_first x new gives changed say same joins given = record {
    fits = record { table = joins.shape g.rules g.tokens say.fits.table; nullable = ap length same ∙ say.fits.nullable };
    first = λ r t on. elim ((joins.bits r t).0 on) [
      | inl i ↦ say.first r t i
      | inr i ↦ let h = given r t i in
          subst (λ q. First (HasProduction g) q t) (sym h.0) (closed.first t (begins_map _ _ _ _ say.empty say.first symbols t h.1))
    ];
    empty = λ r on. say.empty r (sym (ap (λ l. get_or l r false) same) ∙ on);
  }

  pub say_epsilon : (x : FirstSets) → AreSoundFirsts g x → AreNullableBy x symbols → AreSoundFirsts g (with_nullable x rule)
  say_epsilon x say h = record {
    fits = record { table = say.fits.table; nullable = length-set x.nullable rule true ∙ say.fits.nullable };
    first = say.first;
    empty = λ r on. elim (get_or-set x.nullable rule r true false) [
      | inl e ↦ say.empty r (sym e ∙ on)
      | inr k ↦ subst (λ q. Nullable (HasProduction g) q) (sym k.0) (closed.empty (nullable_map _ _ say.empty symbols h))
    ];
  }

-- empty sets say nothing wrong
pub say_none : (g : Grammar) (rules tokens : ℕ) → rules ≡ g.rules → tokens ≡ g.tokens → AreSoundFirsts g (no_firsts rules tokens)
say_none g rules tokens e h = record {
  fits = record {
    table = subst (λ n. IsTable n g.tokens (no_firsts rules tokens).firsts) e (subst (λ n. IsTable rules n (no_firsts rules tokens).firsts) h (IsTable-no_bits rules tokens));
    nullable = length-replicate rules false ∙ e;
  };
  first = λ r t on. absurd (true≢false (sym on ∙ bit-no_bits rules tokens r t));
  empty = λ r on. absurd (true≢false (sym on ∙ get_or-replicate_default rules r false));
}

-- sets that say nothing wrong, to which no production has anything to add, are exact
pub are_firsts : (g : Grammar) (x : FirstSets) → AreSoundFirsts g x → CoversEach CoverFirstsOf g x → AreFirsts g x
are_firsts g x say covered = record {
  fits = say.fits;
  first = λ r t. (say.first r t, closed_first (HasProduction g) (IsNullableRule x) (IsAmongFirsts x) closed r t);
  empty = λ r. (say.empty r, closed_empty (HasProduction g) (IsNullableRule x) (IsAmongFirsts x) closed r);
}
  where
    closed : IsClosed (HasProduction g) (IsNullableRule x) (IsAmongFirsts x)
    closed r symbols has = subst (λ (p : Production). Covers (IsNullableRule x) (IsAmongFirsts x) p.rule p.symbols)
        (get_or_default g.productions has.0 _ _ has.1 ∙ has.2) (covered has.0 has.1)

-- what the symbol begins with was added to the rule's set
pub record Puts (rule : ℕ) (s : Sym) (old new : FirstSets) (changed : Bool) : Type 0 where
  pub nullable : new.nullable ≡ old.nullable
  pub joins : Joins (λ r t. (r ≡ rule) × BeginsBy old (s ∷ []) t) old.firsts new.firsts changed

-- no set but the rule's grew, and that only by what its production gives
pub record Grown (rule : ℕ) (symbols : List Sym) (old new : FirstSets) (changed : Bool) : Type 0 where
  pub sound : (g : Grammar) → IsGrammar g → HasProduction g rule symbols → AreSoundFirsts g old → AreSoundFirsts g new
  pub more : changed ≡ true → count_firsts old < count_firsts new
  pub same : changed ≡ false → new ≡ old
  pub others : (r t : ℕ) → IsAmongFirsts new r t → IsAmongFirsts old r t ⊎ (r ≡ rule)
  pub kept : (r t : ℕ) → IsAmongFirsts old r t → IsAmongFirsts new r t

-- what the first n symbols begin with was added to the rule's set
pub record Walked (rule : ℕ) (symbols : List Sym) (n : ℕ) (old new : FirstSets) (changed : Bool) : Type 0 where
  pub nullable : new.nullable ≡ old.nullable
  pub growth : Grown rule symbols old new changed
  pub given : (t : ℕ) → BeginsBy old (take n symbols) t → IsAmongFirsts new rule t

-- in addition, these symbols are nullable
pub record Visits (rule : ℕ) (symbols : List Sym) (n : ℕ) (old new : FirstSets) (changed : Bool) : Type 0 where
  pub became_nullable : AreNullableBy old (take n symbols)
  pub walked : Walked rule symbols n old new changed

-- all that the production gives was added
record Taken (rule : ℕ) (symbols : List Sym) (old new : FirstSets) (changed : Bool) : Type 0 where
  growth : Grown rule symbols old new changed
  given : (t : ℕ) → BeginsBy old symbols t → IsAmongFirsts new rule t
  others_empty : (r : ℕ) → IsNullableRule new r → IsNullableRule old r ⊎ (r ≡ rule)
  kept_empty : (r : ℕ) → IsNullableRule old r → IsNullableRule new r
  given_empty : AreNullableBy old symbols → IsNullableRule new rule

-- only the rule's set grew, and only if something changed
abbrev pub GainsRule : ℕ → Bool → ℕ → Type 0
GainsRule rule changed r = (r ≡ rule) × (changed ≡ true)

module _ (rule : ℕ) (symbols : List Sym) (old new : FirstSets) (changed : Bool) (w : Taken rule symbols old new changed) where
  -- a production that depends on no set that grew gives no more than the sets had given it before
  covered : (q : Production) → ((r : ℕ) → ProductionRefers q r → GainsRule rule changed r → ⊥) → ((t : ℕ) → BeginsBy old q.symbols t → IsAmongFirsts new q.rule t)
      → (AreNullableBy old q.symbols → IsNullableRule new q.rule) → CoverFirstsOf new q
  covered q none first empty = record {
    first = λ t h. first t (begins_among _ _ _ _ q.symbols t (λ r among on. back_empty r among on) (λ r among on. back r t among on) h);
    empty = λ h. empty (nullable_among _ _ q.symbols (λ r among on. back_empty r among on) h);
  }
    where
      unless : (r : ℕ) → ProductionRefers q r → r ≡ rule → new ≡ old
      unless r among e = by changed refl
        where
          by : (b : Bool) → changed ≡ b → new ≡ old
          by true is = absurd (none r among (e, is))
          by false is = w.growth.same is

      back : (r t : ℕ) → ProductionRefers q r → IsAmongFirsts new r t → IsAmongFirsts old r t
      back r t among on = elim (w.growth.others r t on) [ inl i ↦ i | inr e ↦ subst (λ x. IsAmongFirsts x r t) (unless r among e) on ]

      back_empty : (r : ℕ) → ProductionRefers q r → IsNullableRule new r → IsNullableRule old r
      back_empty r among on = elim (w.others_empty r on) [ inl i ↦ i | inr e ↦ subst (λ x. IsNullableRule x r) (unless r among e) on ]

  takes : AddsProduction AreSoundFirsts CoverFirstsOf count_firsts ProductionRefers HasNoMoreFirsts (record { rule = rule; symbols = symbols }) old new (GainsRule rule changed)
  takes = record {
    sound = w.growth.sound;
    no_less = by changed refl;
    more = λ r h. w.growth.more h.1;
    gains = λ r. (grown r, grew r);
    closed = λ none. covered (record { rule = rule; symbols = symbols }) none w.given w.given_empty;
    stays = λ q none had. covered q none (λ t h. w.growth.kept q.rule t (had.first t h)) (λ h. w.kept_empty q.rule (had.empty h));
  }
    where
      -- if the rule had no more than before, there would be no more in all
      grown : (r : ℕ) → GainsRule rule changed r → HasNoMoreFirsts r old new → ⊥
      grown r h none =
          let more = w.growth.more h.1 in
          let first = count_of-fewer new.firsts old.firsts (λ q t on. elim (w.growth.others q t on) [
            | inl i ↦ i
            | inr e ↦ subst (λ k. IsAmongFirsts old k t) (h.0 ∙ sym e) (none.first t (subst (λ k. IsAmongFirsts new k t) (e ∙ sym h.0) on))
          ]) in
          let empty = bits_on-fewer new.nullable old.nullable (λ q on. elim (w.others_empty q on) [
            | inl i ↦ i
            | inr e ↦ subst (λ k. IsNullableRule old k) (h.0 ∙ sym e) (none.empty (subst (λ k. IsNullableRule new k) (e ∙ sym h.0) on))
          ]) in
          omega (arith, more, first, empty)

      grew : (r : ℕ) → (HasNoMoreFirsts r old new → ⊥) → GainsRule rule changed r
      grew r unless = elim (cases_eq r rule) [
        | inl e ↦ changed_by changed refl e
        | inr ne ↦ absurd (unless (record {
          first = λ t on. elim (w.growth.others r t on) [ inl i ↦ i | inr e ↦ absurd (ne e) ];
          empty = λ on. elim (w.others_empty r on) [ inl i ↦ i | inr e ↦ absurd (ne e) ];
        }))
      ]
        where
          changed_by : (b : Bool) → changed ≡ b → r ≡ rule → GainsRule rule changed r
          changed_by true is e = (e, is)
          changed_by false is e = absurd (unless (record {
            first = λ t on. subst (λ x. IsAmongFirsts x r t) (w.growth.same is) on;
            empty = λ on. subst (λ x. IsNullableRule x r) (w.growth.same is) on;
          }))

      by : (b : Bool) → changed ≡ b → count_firsts old ≤ count_firsts new
      by true e = let h = w.growth.more e in omega (arith, h)
      by false e = let h = ap count_firsts (w.growth.same e) in omega (arith, h)

same_sets : (old new : FirstSets) → new.nullable ≡ old.nullable → new.firsts ≡ old.firsts → new ≡ old
same_sets old new e h = ap (λ l. record { firsts = new.firsts; nullable = l }) e ∙ ap (λ x. record { firsts = x; nullable = old.nullable }) h

module _ (rule : ℕ) (symbols : List Sym) where
  module _ (n : ℕ) (s : Sym) (old mid new : FirstSets) (c d : Bool) (lt : n < length symbols) (is : s ≡ get_or symbols n s)
      (w : Visits rule symbols n old mid c) (one : Puts rule s mid new d) where
    longer : take (n + 1) symbols ≡ take n symbols ++ (s ∷ [])
    longer = take_more symbols n s lt ∙ ap (λ y. take n symbols ++ (y ∷ [])) (sym is)

    unchanged : d ≡ false → new ≡ mid
    unchanged e = same_sets mid new one.nullable (one.joins.same e)

    -- the prefix is still nullable, so what the symbol begins with begins the production
    begins_symbols : (t : ℕ) → BeginsBy mid (s ∷ []) t → BeginsBy mid symbols t
    begins_symbols t h = subst (λ l. BeginsBy mid l t) (take-append-drop (n + 1) symbols)
        (begins_prefix _ _ (take (n + 1) symbols) (drop (n + 1) symbols) t (subst (λ l. BeginsBy mid l t) (sym longer)
        (begins_past _ _ (take n symbols) (s ∷ []) t (subst (λ l. AreNullable (λ r. IsTrue (get_or l r false)) (take n symbols)) (sym w.walked.nullable) w.became_nullable) h)))

    walked : Walked rule symbols (n + 1) old new (c || d)
    walked = record {
      nullable = one.nullable ∙ w.walked.nullable;
      growth = record {
        sound = λ g isg has say. say_first g rule symbols has mid new _ d (w.walked.growth.sound g isg has say) one.nullable one.joins
            (λ r t h. (h.0, begins_symbols t h.1));
        more = grown count_firsts old mid new c d w.walked.growth.more w.walked.growth.same
            (λ e. let k = one.joins.more e in let b = ap bits_on one.nullable in omega (arith, k, b)) unchanged;
        same = λ e. let b = or_parts c d e in unchanged b.1 ∙ w.walked.growth.same b.0;
        others = λ r t h. elim ((one.joins.bits r t).0 h) [ inl i ↦ w.walked.growth.others r t i | inr i ↦ inr i.0 ];
        kept = λ r t h. (one.joins.bits r t).1 (inl (w.walked.growth.kept r t h));
      };
      given = λ t h. (one.joins.bits rule t).1 (elim (begins_parts _ _ (take n symbols) (s ∷ []) t (subst (λ l. BeginsBy old l t) longer h)) [
        | inl i ↦ inl (w.walked.given t i)
        | inr i ↦ inr (refl, begins_map _ _ _ _ (λ r on. subst (λ l. IsTrue (get_or l r false)) (sym w.walked.nullable) on) w.walked.growth.kept (s ∷ []) t i.1)
      ]);
    }

    -- the symbol is a nullable rule, or it isn't
    tested : (b : Bool) → is_nullable_symbol new s ≡ b → is_nullable_symbol old s ≡ b
    tested b e = subst (λ l. is_nullable_symbol (record { firsts = old.firsts; nullable = l }) s ≡ b) (one.nullable ∙ w.walked.nullable) (test_by s e)
      where
        test_by : (s : Sym) → is_nullable_symbol new s ≡ b → is_nullable_symbol (record { firsts = old.firsts; nullable = new.nullable }) s ≡ b
        test_by (Rule r) h = h
        test_by (Token u) h = h

    pub visits_one : is_nullable_symbol new s ≡ true → Visits rule symbols (n + 1) old new (c || d)
    visits_one e = record {
      became_nullable = subst (λ l. AreNullableBy old l) (sym longer)
          (nullable_both _ (take n symbols) (s ∷ []) w.became_nullable (nullable_alone old s (tested true e)));
      walked = walked;
    }

    -- the visit ends at a symbol that isn't a nullable rule
    pub visits_end : is_nullable_symbol new s ≡ false
        → AddsProduction AreSoundFirsts CoverFirstsOf count_firsts ProductionRefers HasNoMoreFirsts (record { rule = rule; symbols = symbols }) old new (GainsRule rule (c || d))
    visits_end e = takes rule symbols old new (c || d) (record {
      growth = walked.growth;
      given = λ t h. elim (begins_parts _ _ (take (n + 1) symbols) (drop (n + 1) symbols) t
          (subst (λ l. BeginsBy old l t) (sym (take-append-drop (n + 1) symbols)) h)) [
            | inl i ↦ walked.given t i
            | inr i ↦ absurd (stays i.0)
          ];
      others_empty = λ r h. inl (subst (λ l. IsTrue (get_or l r false)) walked.nullable h);
      kept_empty = λ r h. subst (λ l. IsTrue (get_or l r false)) (sym walked.nullable) h;
      given_empty = λ h. absurd (stays (nullable_parts _ (take (n + 1) symbols) (drop (n + 1) symbols)
          (subst (λ l. AreNullableBy old l) (sym (take-append-drop (n + 1) symbols)) h)).0);
    })
      where
        stays : AreNullableBy old (take (n + 1) symbols) → ⊥
        stays v = stays_alone old s (tested false e) (nullable_parts _ (take n symbols) (s ∷ []) (subst (λ l. AreNullableBy old l) longer v)).1

  -- all symbols are nullable, and the rule was marked as nullable
  pub visits_all : (g : Grammar) (n : ℕ) (old mid new : FirstSets) (c d : Bool) → IsGrammar g → HasProduction g rule symbols → AreSoundFirsts g old
      → length symbols ≤ n → Visits rule symbols n old mid c → new ≡ with_nullable mid rule
      → MatchBool d (nullable_bit mid rule ≡ false) (nullable_bit mid rule ≡ true)
      → AddsProduction AreSoundFirsts CoverFirstsOf count_firsts ProductionRefers HasNoMoreFirsts (record { rule = rule; symbols = symbols }) old new (GainsRule rule (c || d))
  visits_all g n old mid new c d is has say le w put was = takes rule symbols old new (c || d) (record {
    growth = record {
      sound = λ g' is' has' say'. subst (λ x. AreSoundFirsts g' x) (sym put) (say_epsilon g' rule symbols has' mid (w.walked.growth.sound g' is' has' say')
          (subst (λ l. AreNullable (λ r. IsTrue (get_or l r false)) symbols) (sym w.walked.nullable) became_nullable));
      more = grown count_firsts old mid new c d w.walked.growth.more w.walked.growth.same
          (λ e. subst (λ x. count_firsts mid < count_firsts x) (sym put)
          (let k = bits_on-set mid.nullable rule within (at d e was) in omega (arith, k))) unchanged;
      same = λ e. let b = or_parts c d e in unchanged b.1 ∙ w.walked.growth.same b.0;
      others = λ r t h. w.walked.growth.others r t (subst (λ x. IsAmongFirsts x r t) put h);
      kept = λ r t h. subst (λ x. IsAmongFirsts x r t) (sym put) (w.walked.growth.kept r t h);
    };
    given = λ t h. subst (λ x. IsAmongFirsts x rule t) (sym put) (w.walked.given t (subst (λ l. BeginsBy old l t) (sym all) h));
    others_empty = λ r h. elim (get_or-set mid.nullable rule r true false) [
      | inl e ↦ inl (subst (λ l. IsTrue (get_or l r false)) w.walked.nullable (sym e ∙ subst (λ x. IsNullableRule x r) put h))
      | inr e ↦ inr e.0
    ];
    kept_empty = λ r h. subst (λ x. IsNullableRule x r) (sym put) (elim (get_or-set mid.nullable rule r true false) [
      | inl e ↦ e ∙ subst (λ l. IsTrue (get_or l r false)) (sym w.walked.nullable) h
      | inr e ↦ e.1
    ]);
    given_empty = λ h. subst (λ x. IsNullableRule x rule) (sym put) (get_or-set_same mid.nullable rule true false within);
  })
    where
      all : take n symbols ≡ symbols
      all = take_all n symbols le

      became_nullable : AreNullableBy old symbols
      became_nullable = subst (λ l. AreNullableBy old l) all w.became_nullable

      within : rule < length mid.nullable
      within = subst (λ k. rule < k) (sym (w.walked.growth.sound g is has say).fits.nullable) (owner g _ is has)

      at : (d : Bool) → d ≡ true → MatchBool d (nullable_bit mid rule ≡ false) (nullable_bit mid rule ≡ true) → nullable_bit mid rule ≡ false
      at true e h = h
      at false e h = absurd (true≢false (sym e))

      on : (d : Bool) → d ≡ false → MatchBool d (nullable_bit mid rule ≡ false) (nullable_bit mid rule ≡ true) → nullable_bit mid rule ≡ true
      on true e h = absurd (true≢false e)
      on false e h = h

      unchanged : d ≡ false → new ≡ mid
      unchanged e = put ∙ ap (λ l. record { firsts = mid.firsts; nullable = l })
          (ap (λ b. slice_set mid.nullable rule b) (sym (on d e was)) ∙ set-get_or mid.nullable rule false)

-- the rule waits if its set grew
gains_rule : (rule : ℕ) (p : Production) (old new : FirstSets) (changed : Bool) (grown : ℕ → Type 0) → ((r : ℕ) → grown r → GainsRule rule changed r)
    → ((r : ℕ) → GainsRule rule changed r → grown r) → AddsProduction AreSoundFirsts CoverFirstsOf count_firsts ProductionRefers HasNoMoreFirsts p old new (GainsRule rule changed)
    → AddsProduction AreSoundFirsts CoverFirstsOf count_firsts ProductionRefers HasNoMoreFirsts p old new grown
gains_rule rule p old new changed grown to from w = record {
  sound = w.sound;
  no_less = w.no_less;
  more = λ r h. w.more r (to r h);
  gains = λ r. ((λ h. (w.gains r).0 (to r h)), (λ unless. from r ((w.gains r).1 unless)));
  closed = λ none. w.closed (λ r depends h. none r depends (from r h));
  stays = λ q none. w.stays q (λ r depends h. none r depends (from r h));
}

pub gains_put : (rule index : ℕ) (p : Production) (old new : FirstSets) (changed : Bool) (waiting waiting' : List Bool) → NoneWaits waiting
    → index < length waiting → index ≡ rule → waiting' ≡ slice_set waiting index true → changed ≡ true
    → AddsProduction AreSoundFirsts CoverFirstsOf count_firsts ProductionRefers HasNoMoreFirsts p old new (GainsRule rule changed)
    → AddsProduction AreSoundFirsts CoverFirstsOf count_firsts ProductionRefers HasNoMoreFirsts p old new (Waits waiting')
gains_put rule index p old new changed waiting waiting' none lt at put on w = gains_rule rule p old new changed (Waits waiting')
    (λ r h. elim ((bit_put waiting index lt r).0 (subst (λ l. Waits l r) put h)) [
      | inl i ↦ absurd (true≢false (sym i ∙ none r))
      | inr e ↦ (e ∙ at, on)
    ])
    (λ r h. subst (λ l. Waits l r) (sym put) ((bit_put waiting index lt r).1 (inr (h.0 ∙ sym at)))) w

pub gains_none : (rule : ℕ) (p : Production) (old new : FirstSets) (changed : Bool) (waiting : List Bool) → NoneWaits waiting → changed ≡ false
    → AddsProduction AreSoundFirsts CoverFirstsOf count_firsts ProductionRefers HasNoMoreFirsts p old new (GainsRule rule changed)
    → AddsProduction AreSoundFirsts CoverFirstsOf count_firsts ProductionRefers HasNoMoreFirsts p old new (Waits waiting)
gains_none rule p old new changed waiting none off w = gains_rule rule p old new changed (Waits waiting)
    (λ r h. absurd (true≢false (sym h ∙ none r))) (λ r h. absurd (true≢false (sym h.1 ∙ off))) w
