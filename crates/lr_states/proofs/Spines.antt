-- Which items are valid for a prefix: those of which a symbol more is read, and those whose rules are opened.
use Rattle.std.proofs.Common.{◌≡◌, inl, inr, ℕ, ◌+◌, ◌-◌, ◌<◌, List, [], ◌∷◌, ◌++◌, Some, slice_get, length, take, drop, append-nil, append_assoc, take-append-drop, refl, sym, ap, subst, ◌∙◌, arith}
use Rattle.std.proofs.lemmas.List.{drop_more, length_push, same_from_push, take_at, take_more, get_or_at, length-append}
use Rattle.std.proofs.lemmas.Bool.{cases_eq}
use Rattle.std.proofs.lemmas.Option.{get_or_from_slice_get, slice_get-get_or, slice_get_within}
use Rattle.search.specs.Reachable.{Reachable, led, seed}
use Rattle.cfgrammar.specs.Grammar.{Grammar, Sym, Rule}
use Rattle.cfgrammar.specs.Openings.{nth_production}
use Rattle.cfgrammar.proofs.Elements.{element_at}
use Rattle.lr_states.specs.declared.Item.{Item}
use Rattle.lr_states.specs.Viable.{HasNext, IsValid, IsViable, Spine, inner, item_at, start}
use Rattle.lr_states.specs.Inner.Closure.{Enters}

-- the symbol at the end of a list
pub slice_at : (read rest : List Sym) (x : Sym) → slice_get (read ++ x ∷ rest) (length read) ≡ Some x
slice_at read rest x =
    slice_get-get_or (read ++ x ∷ rest) (length read) x (let long = length-append read (x ∷ rest) in omega (arith, long))
    ∙ ap Some (get_or_at read x rest x (length read) refl)

pub split_at : (symbols : List Sym) (i : ℕ) (x : Sym) → slice_get symbols i ≡ Some x → i < length symbols → symbols ≡ take i symbols ++ x ∷ drop (i + 1) symbols
split_at symbols i x at within =
    sym (take-append-drop i symbols) ∙ ap (λ l. take i symbols ++ l) (drop_more symbols i x within)
    ∙ ap (λ y. take i symbols ++ y ∷ drop (i + 1) symbols) (get_or_from_slice_get symbols i x x at)

pub within_at : (symbols : List Sym) (i : ℕ) (x : Sym) → slice_get symbols i ≡ Some x → i < length symbols
within_at symbols i x at = slice_get_within symbols i x at

module _ (g : Grammar) (Used : ℕ → Type 0) where
  abbrev symbols : ℕ → List Sym
  symbols p = (nth_production g p).symbols

  abbrev Valid : List Sym → Item → Type 0
  Valid = IsValid g Used

  -- some spine leads to the rule after these symbols
  pub record IsOpened (prefix : List Sym) (rule : ℕ) : Type 0 where
    pub after : List Sym
    pub spine : Spine g Used prefix rule after

  -- an item of which nothing is read is valid exactly if its rule is opened
  pub valid_opened : (prefix : List Sym) (item : Item) → item.read ≡ 0 → Valid prefix item → IsOpened prefix (nth_production g item.production).rule
  valid_opened prefix item unread v = record {
    after = v.after;
    spine = subst (λ l. Spine g Used l (nth_production g item.production).rule v.after)
        (sym (v.is ∙ ap (λ n. v.before ++ take n (symbols item.production)) unread ∙ append-nil v.before)) v.spine;
  }

  pub opened_valid : (prefix : List Sym) (item : Item) → item.read ≡ 0 → Used item.production → IsOpened prefix (nth_production g item.production).rule → Valid prefix item
  opened_valid prefix item unread used o = record {
    before = prefix;
    after = o.after;
    spine = o.spine;
    used = used;
    read = omega (arith, unread);
    is = sym (ap (λ n. prefix ++ take n (symbols item.production)) unread ∙ append-nil prefix);
  }

  -- one symbol more
  pub more_read : (before : List Sym) (x : Sym) (p i : ℕ) → HasNext g (item_at p i) x → (before ++ take i (symbols p)) ++ x ∷ [] ≡ before ++ take (i + 1) (symbols p)
  more_read before x p i at =
      append_assoc before (take i (symbols p)) (x ∷ [])
      ∙ ap (λ l. before ++ l) (sym (take_more (symbols p) i x (within_at (symbols p) i x at) ∙ ap (λ y. take i (symbols p) ++ y ∷ []) (get_or_from_slice_get (symbols p) i x x at)))

  pub read_one : (prefix : List Sym) (x : Sym) (p i : ℕ) → HasNext g (item_at p i) x → Valid prefix (item_at p i) → Valid (prefix ++ x ∷ []) (item_at p (i + 1))
  read_one prefix x p i at v =
      let within : i < length (symbols p) = within_at (symbols p) i x at in
      record {
        before = v.before;
        after = v.after;
        spine = v.spine;
        used = v.used;
        read = omega (arith, within);
        is = ap (λ l. l ++ x ∷ []) v.is ∙ more_read v.before x p i at;
      }

  -- an item of which a symbol was read
  pub record WasRead (prefix : List Sym) (p i : ℕ) : Type 0 where
    pub rest : List Sym
    pub symbol : Sym
    pub is : prefix ≡ rest ++ symbol ∷ []
    pub next : HasNext g (item_at p i) symbol
    pub valid : Valid rest (item_at p i)

  pub was_read : (prefix : List Sym) (p i : ℕ) → Valid prefix (item_at p (i + 1)) → WasRead prefix p i
  was_read prefix p i v =
      let within : i < length (symbols p) = let most = v.read in omega (arith, most) in
      let (x, at) = element_at (symbols p) i within in
      record {
        rest = v.before ++ take i (symbols p);
        symbol = x;
        is = v.is ∙ sym (more_read v.before x p i at);
        next = at;
        valid = record { before = v.before; after = v.after; spine = v.spine; used = v.used; read = omega (arith, within); is = refl };
      }

  pub read_back : (prefix : List Sym) (x : Sym) (p i : ℕ) → Valid (prefix ++ x ∷ []) (item_at p (i + 1)) → HasNext g (item_at p i) x × Valid prefix (item_at p i)
  read_back prefix x p i v =
      let w = was_read (prefix ++ x ∷ []) p i v in
      let same = same_from_push prefix w.rest x w.symbol w.is in
      (subst (HasNext g (item_at p i)) (sym same.1) w.next, subst (λ l. Valid l (item_at p i)) (sym same.0) w.valid)

  pub none_read : (p i : ℕ) → Valid [] (item_at p (i + 1)) → ⊥
  none_read p i v = let w = was_read [] p i v in omega (arith, ap length w.is, length_push w.rest w.symbol)

  -- the next rule of an item is opened
  pub spine_next : (prefix before after : List Sym) (item : Item) (rule : ℕ) → Spine g Used before (nth_production g item.production).rule after → Used item.production
      → prefix ≡ before ++ take item.read (symbols item.production) → HasNext g item (Rule rule) → Spine g Used prefix rule (drop (item.read + 1) (symbols item.production) ++ after)
  spine_next prefix before after item rule spine used is at =
      let list = symbols item.production in
      subst (λ l. Spine g Used l rule (drop (item.read + 1) list ++ after)) (sym is)
      (inner spine item.production used refl (take item.read list) (drop (item.read + 1) list) rule
      (split_at list item.read (Rule rule) at (within_at list item.read (Rule rule) at)))

  pub opened_next : (prefix : List Sym) (item : Item) (rule : ℕ) → Valid prefix item → HasNext g item (Rule rule) → IsOpened prefix rule
  opened_next prefix item rule v at = record { after = _; spine = spine_next prefix v.before v.after item rule v.spine v.used v.is at }

  -- the rules that are next in items with symbols read; for the empty prefix the start rule
  pub data IsSeedAt (prefix : List Sym) (rule : ℕ) : Type 0 where
    first : prefix ≡ [] → rule ≡ 0 → IsSeedAt prefix rule
    next : (item : Item) → 0 < item.read → Valid prefix item → HasNext g item (Rule rule) → IsSeedAt prefix rule

  -- the item in which the rule of a spine is next
  pub spine_item : {before after : List Sym} {owner : ℕ} → Spine g Used before owner after → (p : ℕ) → Used p → (nth_production g p).rule ≡ owner → (read rest : List Sym) (rule : ℕ)
      → symbols p ≡ read ++ Rule rule ∷ rest → Valid (before ++ read) (item_at p (length read)) × HasNext g (item_at p (length read)) (Rule rule)
  spine_item {before} {after} spine p used own read rest rule split = (
    record {
      before = before;
      after = after;
      spine = subst (λ r. Spine g Used before r after) (sym own) spine;
      used = used;
      read = let long = ap length split in let parts = length-append read (Rule rule ∷ rest) in omega (arith, long, parts);
      is = ap (λ l. before ++ l) (sym (ap (take (length read)) split ∙ take_at read (Rule rule ∷ rest) (length read) refl));
    },
    ap (λ l. slice_get l (length read)) split ∙ slice_at read rest (Rule rule),
  )

  spine_reached : {prefix after : List Sym} {rule : ℕ} → Spine g Used prefix rule after → Reachable (IsSeedAt prefix) (Enters g Used) rule
  spine_reached start = seed (first refl refl)
  spine_reached (inner {before} {after} {owner} spine p used own [] rest rule split) =
      subst (λ l. Reachable (IsSeedAt l) (Enters g Used) rule) (sym (append-nil before))
      (led (spine_reached spine) (record { index = p; used = used; owner = own; begins = ap (λ l. slice_get l 0) split }))
  spine_reached (inner spine p used own (x ∷ read) rest rule split) =
      let (valid, at) = spine_item spine p used own (x ∷ read) rest rule split in
      seed (next (item_at p (length (x ∷ read))) (omega arith) valid at)

  -- a rule is opened exactly if it is reached from these
  pub opened_reached : (prefix : List Sym) (rule : ℕ) → IsOpened prefix rule → Reachable (IsSeedAt prefix) (Enters g Used) rule
  opened_reached prefix rule o = spine_reached o.spine

  pub reached_opened : (prefix : List Sym) {rule : ℕ} → Reachable (IsSeedAt prefix) (Enters g Used) rule → IsOpened prefix rule
  reached_opened prefix (seed {a = rule} (first empty zero)) = record {
    after = [];
    spine = subst (λ l. Spine g Used l rule []) (sym empty) (subst (λ r. Spine g Used [] r []) (sym zero) start);
  }
  reached_opened prefix (seed {a = rule} (next item some v at)) = opened_next prefix item rule v at
  reached_opened prefix (led {b = rule} h k) = opened_next prefix (item_at k.index 0) rule
      (opened_valid prefix (item_at k.index 0) refl k.used (subst (IsOpened prefix) (sym k.owner) (reached_opened prefix h))) k.begins

  -- a symbol before the end of a viable prefix was read in some item
  pub record IsRead (prefix : List Sym) (x : Sym) : Type 0 where
    pub production : ℕ
    pub read : ℕ
    pub valid : Valid prefix (item_at production read)
    pub next : HasNext g (item_at production read) x

  read_item : (prefix : List Sym) (x : Sym) (item : Item) → 0 < item.read → Valid (prefix ++ x ∷ []) item → IsRead prefix x
  read_item prefix x item some v =
      let p = item.production in
      let i = item.read - 1 in
      let is : item.read ≡ i + 1 = omega (arith, some) in
      let back = read_back prefix x p i (subst (λ m. Valid (prefix ++ x ∷ []) (item_at p m)) is v) in
      record { production = p; read = i; valid = back.1; next = back.0 }

  read_reached : (prefix : List Sym) (x : Sym) {rule : ℕ} → Reachable (IsSeedAt (prefix ++ x ∷ [])) (Enters g Used) rule → IsRead prefix x
  read_reached prefix x (seed (first empty zero)) = absurd (omega (arith, ap length empty, length_push prefix x))
  read_reached prefix x (seed (next item some v at)) = read_item prefix x item some v
  read_reached prefix x (led h k) = read_reached prefix x h

  pub viable_read : (prefix : List Sym) (x : Sym) → IsViable g Used (prefix ++ x ∷ []) → IsRead prefix x
  viable_read prefix x viable = elim (cases_eq viable.item.read 0) [
    | inl unread ↦ read_reached prefix x (opened_reached (prefix ++ x ∷ []) (nth_production g viable.item.production).rule
        (valid_opened (prefix ++ x ∷ []) viable.item unread viable.is))
    | inr some ↦ read_item prefix x viable.item (omega (arith, some)) viable.is
  ]

  -- a prefix of a viable prefix is viable
  pub viable_prefix : (prefix rest : List Sym) → IsViable g Used (prefix ++ rest) → IsViable g Used prefix
  viable_prefix prefix [] viable = subst (IsViable g Used) (append-nil prefix) viable
  viable_prefix prefix (x ∷ rest) viable =
      let w = viable_read prefix x (viable_prefix (prefix ++ x ∷ []) rest (subst (IsViable g Used) (sym (append_assoc prefix (x ∷ []) rest)) viable)) in
      record { item = item_at w.production w.read; is = w.valid }
