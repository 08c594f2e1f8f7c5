-- FOLLOW sets: what a production adds to the sets of its rules, symbol by symbol, and the initial sets.
use Rattle.std.proofs.Common.{◌≡◌, ◌↔◌, ℕ, ◌+◌, ◌<◌, ◌≤◌, ◌⊎◌, inl, inr, Bool, true, false, List, [], ◌∷◌, drop, slice_set, length, arith, refl, sym, ap, ◌∙◌, subst, true≢false, zero, suc, length-set, ◌-◌}
use Rattle.std.proofs.lemmas.List.{drop_all}
use Rattle.derivation.specs.Grammar.{Sym, Rule, Token, Grammar, IsGrammar, HasProduction}
use Rattle.derivation.specs.First.{First, Nullable}
use Rattle.derivation.specs.Follow.{MayFollow, FollowEnd}
use Rattle.derivation.specs.FirstSets.{AreNullable, Begins}
use Rattle.derivation.specs.FollowSets.{CoversFollow}
use Rattle.derivation.proofs.Firsts.{nullable_map, begins_map}
use Rattle.derivation.proofs.Follows.{derived_follow, end_of_start}
use Rattle.search.proofs.Bits.{bit_put}
use Rattle.cfgsets.specs.Table.{HasBit, IsTable, Joins, no_bits, with_bit}
use Rattle.cfgsets.specs.FirstSets.{AreSoundFirsts, IsAmongFirsts, IsNullableRule, FirstSets}
use Rattle.cfgsets.specs.GrowingFollows.{FollowSets, AreSoundFollows, HasNoMoreFollows, CoverFollowsOf, IsOwner, CoversFollowIn, count_follows}
use Rattle.cfgsets.specs.Inner.Lookaheads.{After, Puts, PutsAfter}
use Rattle.cfgsets.specs.Growth.{AddsProduction}
use Rattle.cfgsets.specs.Waiting.{waits, Waits, NoneWaits}
use Rattle.cfgsets.proofs.Joins.{count_of-fewer, bit-no_bits, IsTable-no_bits, joins_bit}

module _ (q : ℕ) (gives : ℕ → Type 0) (old new : FollowSets) (changed : Bool) (waiting : List Bool) (w : Puts (λ r t. (r ≡ q) × gives t) old new changed) where
  bits_after : (r t : ℕ) → HasBit new.follows r t ↔ (HasBit old.follows r t ⊎ ((Rule r ≡ Rule q) × gives t))
  bits_after r t = (
    (λ h. elim ((w.joins.bits r t).0 h) [ inl i ↦ inl i | inr i ↦ inr (ap Rule i.0, i.1) ]),
    (λ h. (w.joins.bits r t).1 (elim h [ inl i ↦ inl i | inr i ↦ let e : r ≡ q = cc (i.0) in inr (e, i.1) ])),
  )

  -- the rule's set grew, and the rule waits
  pub rule_after : (n : ℕ) (waiting' : List Bool) → changed ≡ true → n ≡ q → n < length waiting → waiting' ≡ slice_set waiting n true
      → PutsAfter (λ r t. (Rule r ≡ Rule q) × gives t) old new waiting waiting'
  rule_after n waiting' on is lt put = record {
    firsts = w.firsts;
    shape = w.joins.shape;
    bits = bits_after;
    no_less = let h = w.joins.more on in omega (arith, h);
    rules = ap length put ∙ length-set waiting n true;
    kept = λ r h. subst (λ l. Waits l r) (sym put) ((bit_put waiting n lt r).1 (inl h));
    grown = λ r h. inr (w.joins.more on);
    more = λ r h. elim ((bit_put waiting n lt r).0 (subst (λ l. Waits l r) put h)) [ inl i ↦ inl i | inr e ↦ inr (λ none. grew r (e ∙ is) none) ];
    reported = λ r t h. elim ((w.joins.bits r t).0 h) [
      | inl i ↦ inl i
      | inr i ↦ inr (subst (λ l. Waits l r) (sym put) ((bit_put waiting n lt r).1 (inr (i.0 ∙ sym is))))
    ];
  }
    where
      -- if the rule had no more than before, there would be no more in all
      grew : (r : ℕ) → r ≡ q → HasNoMoreFollows r old new → ⊥
      grew r e none =
          let more = w.joins.more on in
          let all = count_of-fewer new.follows old.follows (λ k t set. elim ((w.joins.bits k t).0 set) [
            | inl i ↦ i
            | inr i ↦ subst (λ m. HasBit old.follows m t) (e ∙ sym i.0) (none t (subst (λ m. HasBit new.follows m t) (i.0 ∙ sym e) set))
          ]) in
          omega (arith, more, all)

-- What follows the symbols from the n-th on was added. They stay covered later, as long as the rule's set is as it was.
pub record Flowing (rule : ℕ) (symbols : List Sym) (n : ℕ) (old new : FollowSets) (none waiting : List Bool) : Type 0 where
  pub sound : (g : Grammar) → IsGrammar g → HasProduction g rule symbols → AreSoundFollows g old → AreSoundFollows g new
  pub firsts : new.firsts ≡ old.firsts
  pub no_less : count_follows old ≤ count_follows new
  pub rules : length waiting ≡ length none
  pub grown : (r : ℕ) → Waits waiting r → Waits none r ⊎ (count_follows old < count_follows new)
  pub more : (r : ℕ) → Waits waiting r → Waits none r ⊎ (HasNoMoreFollows r old new → ⊥)
  pub reported : (r t : ℕ) → HasBit new.follows r t → HasBit old.follows r t ⊎ Waits waiting r
  pub kept : (r t : ℕ) → HasBit old.follows r t → HasBit new.follows r t
  pub closed : (x : FollowSets) → x.firsts ≡ old.firsts → ((r t : ℕ) → HasBit new.follows r t → HasBit x.follows r t)
      → ((t : ℕ) → HasBit x.follows rule t → HasBit old.follows rule t) → CoversFollowIn x rule (drop n symbols)

-- what follows a symbol still follows it after its rule's set grew
pub after_grow : (old new : FollowSets) (rule : ℕ) (a : List Sym) (t : ℕ) → new.firsts ≡ old.firsts
    → (HasBit old.follows rule t → HasBit new.follows rule t) → After old rule a t → After new rule a t
after_grow old new rule a t e grow (inl b) = inl (subst (λ f. Begins (IsNullableRule f) (IsAmongFirsts f) a t) (sym e) b)
after_grow old new rule a t e grow (inr b) = inr (subst (λ f. AreNullable (IsNullableRule f) a) (sym e) b.0, grow b.1)

-- the equations hold for a suffix of a list if they hold for the list
follow_drop : (E : ℕ → Type 0) (F W : ℕ → ℕ → Type 0) (k : ℕ → Type 0) (n : ℕ) (a : List Sym) → CoversFollow E F W a k → CoversFollow E F W (drop n a) k
follow_drop E F W k zero a h = h
follow_drop E F W k (suc n) [] h = h
follow_drop E F W k (suc n) (Token u ∷ a) h = follow_drop E F W k n a h
follow_drop E F W k (suc n) (Rule q ∷ a) h = follow_drop E F W k n a h.2

-- what follows a rule in a production may follow the rule
may_follow : (g : Grammar) (rule : ℕ) (rest : List Sym) (x : FollowSets) (s : Sym) (r t : ℕ) → AreSoundFollows g x
    → CoversFollow (Nullable (HasProduction g)) (First (HasProduction g)) (MayFollow g) (s ∷ rest) (MayFollow g rule)
    → Rule r ≡ s → After x rule rest t → MayFollow g r t
may_follow g rule rest x s r t say covers e h =
    let f = subst (λ y. CoversFollow (Nullable (HasProduction g)) (First (HasProduction g)) (MayFollow g) (y ∷ rest) (MayFollow g rule)) (sym e) covers in
    elim h [
      | inl b ↦ f.0 t (begins_map _ _ _ _ say.firsts.empty say.firsts.first rest t b)
      | inr v ↦ f.1 (nullable_map _ _ say.firsts.empty rest v.0) t (say.follow rule t v.1)
    ]

say_puts : (g : Grammar) (gives : ℕ → ℕ → Type 0) (old new : FollowSets) (waiting waiting' : List Bool) → AreSoundFollows g old
    → PutsAfter gives old new waiting waiting' → ((r t : ℕ) → gives r t → MayFollow g r t) → AreSoundFollows g new
say_puts g gives old new waiting waiting' say w may = record {
  firsts = subst (λ f. AreSoundFirsts g f) (sym w.firsts) say.firsts;
  fits = w.shape g.rules g.tokens say.fits;
  finish = λ t e. (w.bits 0 t).1 (inl (say.finish t e));
  follow = λ r t h. elim ((w.bits r t).0 h) [ inl i ↦ say.follow r t i | inr i ↦ may r t i ];
}

follow_at : (x : FollowSets) (rule : ℕ) (s : Sym) (rest : List Sym) → ((r t : ℕ) → Rule r ≡ s → After x rule rest t → HasBit x.follows r t)
    → CoversFollowIn x rule rest → CoversFollowIn x rule (s ∷ rest)
follow_at x rule (Token u) rest had h = h
follow_at x rule (Rule q) rest had h = ((λ t b. had q t refl (inl b)), (λ v t b. had q t refl (inr (v, b))), h)

-- the equations also hold for larger sets, if no more comes from the rule
follow_grow : (E : ℕ → Type 0) (F W W' : ℕ → ℕ → Type 0) (k k' : ℕ → Type 0) (a : List Sym) → ((r t : ℕ) → W r t → W' r t) → ((t : ℕ) → k' t → k t)
    → CoversFollow E F W a k → CoversFollow E F W' a k'
follow_grow E F W W' k k' [] f back h = h
follow_grow E F W W' k k' (Token u ∷ a) f back h = follow_grow E F W W' k k' a f back h
follow_grow E F W W' k k' (Rule q ∷ a) f back h = (
  (λ t b. f q t (h.0 t b)),
  (λ v t b. f q t (h.1 v t (back t b))),
  follow_grow E F W W' k k' a f back h.2,
)

module _ (rule : ℕ) (symbols : List Sym) where
  pub flowing_none : (n : ℕ) (x : FollowSets) (none : List Bool) → length symbols ≤ n → Flowing rule symbols n x x none none
  flowing_none n x none le = record {
    sound = λ g is has say. say;
    firsts = refl;
    no_less = omega arith;
    rules = refl;
    grown = λ r h. inl h;
    more = λ r h. inl h;
    reported = λ r t h. inl h;
    kept = λ r t h. h;
    closed = λ y e f back. subst (λ l. CoversFollowIn y rule l) (sym (drop_all n symbols le)) tt;
  }

  -- What is added for a symbol now follows it; and what followed it at the start is added.
  pub flowing_one : (n : ℕ) (s : Sym) (rest : List Sym) (gives : ℕ → Type 0) (old mid new : FollowSets) (none waiting waiting' : List Bool)
      → drop n symbols ≡ s ∷ rest → rest ≡ drop (n + 1) symbols → Flowing rule symbols (n + 1) old mid none waiting
      → ((t : ℕ) → After old rule rest t → gives t) → ((t : ℕ) → gives t → After mid rule rest t)
      → PutsAfter (λ r t. (Rule r ≡ s) × gives t) mid new waiting waiting'
      → Flowing rule symbols n old new none waiting'
  flowing_one n s rest gives old mid new none waiting waiting' at after w below above one = record {
    sound = λ g is has say. let m = w.sound g is has say in
        say_puts g _ mid new waiting waiting' m one (λ r t h. may_follow g rule rest mid s r t m
        (subst (λ l. CoversFollow (Nullable (HasProduction g)) (First (HasProduction g)) (MayFollow g) l (MayFollow g rule)) at
        (follow_drop _ _ _ _ n symbols (derived_follow g rule symbols has))) h.0 (above t h.1));
    firsts = one.firsts ∙ w.firsts;
    no_less = let a = w.no_less in let b = one.no_less in omega (arith, a, b);
    rules = one.rules ∙ w.rules;
    grown = λ r h. elim (one.grown r h) [
      | inl i ↦ elim (w.grown r i) [
        | inl j ↦ inl j
        | inr j ↦ let b = one.no_less in inr (omega (arith, j, b))
      ]
      | inr i ↦ let a = w.no_less in inr (omega (arith, i, a))
    ];
    more = λ r h. elim (one.more r h) [
      | inl i ↦ elim (w.more r i) [
        | inl j ↦ inl j
        | inr j ↦ inr (λ unless. j (λ t on. unless t ((one.bits r t).1 (inl on))))
      ]
      | inr i ↦ inr (λ unless. i (λ t on. w.kept r t (unless t on)))
    ];
    reported = λ r t h. elim (one.reported r t h) [
      | inl i ↦ elim (w.reported r t i) [ inl j ↦ inl j | inr j ↦ inr (one.kept r j) ]
      | inr i ↦ inr i
    ];
    kept = λ r t h. (one.bits r t).1 (inl (w.kept r t h));
    closed = λ x e f back. subst (λ l. CoversFollowIn x rule l) (sym at) (follow_at x rule s rest
        (λ r t is b. f r t ((one.bits r t).1 (inr (is, below t (after_grow x old rule rest t (sym e) (back t) b)))))
        (subst (λ l. CoversFollowIn x rule l) (sym after) (w.closed x e (λ r t on. f r t ((one.bits r t).1 (inl on))) back)));
  }

  pub flowing_all : (n : ℕ) (old new : FollowSets) (none waiting : List Bool) → n ≡ 0 → NoneWaits none
      → Flowing rule symbols n old new none waiting
      → AddsProduction AreSoundFollows CoverFollowsOf count_follows IsOwner HasNoMoreFollows (record { rule = rule; symbols = symbols }) old new (Waits waiting)
  flowing_all n old new none waiting start idle w = record {
    sound = w.sound;
    no_less = w.no_less;
    more = λ r h. elim (w.grown r h) [ inl i ↦ absurd (true≢false (sym i ∙ idle r)) | inr i ↦ i ];
    gains = λ r. (
      (λ h. elim (w.more r h) [ inl i ↦ absurd (true≢false (sym i ∙ idle r)) | inr i ↦ i ]),
      (λ unless. waits_by r (waits waiting r) refl unless),
    );
    closed = λ unless. subst (λ k. CoversFollowIn new rule (drop k symbols)) start
        (w.closed new w.firsts (λ r t h. h) (λ t h. back rule (unless rule refl) t h));
    stays = λ q unless had. follow_grow (IsNullableRule new.firsts) (IsAmongFirsts new.firsts) (HasBit old.follows) (HasBit new.follows)
        (HasBit old.follows q.rule) (HasBit new.follows q.rule) q.symbols w.kept (λ t h. back q.rule (unless q.rule refl) t h)
        (subst (λ f. CoversFollow (IsNullableRule f) (IsAmongFirsts f) (HasBit old.follows) q.symbols (HasBit old.follows q.rule)) (sym w.firsts) had);
  }
    where
      back : (r : ℕ) → (Waits waiting r → ⊥) → (t : ℕ) → HasBit new.follows r t → HasBit old.follows r t
      back r unless t h = elim (w.reported r t h) [ inl i ↦ i | inr i ↦ absurd (unless i) ]

      waits_by : (r : ℕ) (b : Bool) → waits waiting r ≡ b → (HasNoMoreFollows r old new → ⊥) → Waits waiting r
      waits_by r true on unless = on
      waits_by r false off unless = absurd (unless (back r (λ on. true≢false (sym on ∙ off))))

-- at first the end token follows the start rule, and nothing else follows anything
pub say_start : (g : Grammar) (f : FirstSets) (rules tokens : ℕ) → IsGrammar g → AreSoundFirsts g f → rules ≡ g.rules → tokens ≡ g.tokens
    → AreSoundFollows g (record { firsts = f; follows = with_bit (no_bits rules tokens) 0 (tokens - 1) })
say_start g f rules tokens is are e h =
    subst (λ n. AreSoundFollows g (record { firsts = f; follows = with_bit (no_bits n tokens) 0 (tokens - 1) })) (sym e)
    (subst (λ n. AreSoundFollows g (record { firsts = f; follows = with_bit (no_bits g.rules n) 0 (n - 1) })) (sym h) (record {
      firsts = are;
      fits = one.shape g.rules g.tokens table;
      finish = λ t e. let index : t ≡ g.tokens - 1 = omega (arith, e) in (one.bits 0 t).1 (inr (refl, index));
      follow = λ r t on. elim ((one.bits r t).0 on) [
        | inl i ↦ absurd (true≢false (sym i ∙ bit-no_bits g.rules g.tokens r t))
        | inr i ↦ inr (last t i.1, subst (λ q. FollowEnd (HasProduction g) q) (sym i.0) (end_of_start g))
      ];
    }))
  where
    table : IsTable g.rules g.tokens (no_bits g.rules g.tokens)
    table = IsTable-no_bits g.rules g.tokens

    one : Joins (λ r k. (r ≡ 0) × (k ≡ g.tokens - 1)) (no_bits g.rules g.tokens) (with_bit (no_bits g.rules g.tokens) 0 (g.tokens - 1)) true
    one = joins_bit g.rules g.tokens (no_bits g.rules g.tokens) 0 (g.tokens - 1) true table is.start (omega (arith, is.finish))
        (bit-no_bits g.rules g.tokens 0 (g.tokens - 1))

    last : (t : ℕ) → t ≡ g.tokens - 1 → t + 1 ≡ g.tokens
    last t e = omega (arith, e, is.finish)
