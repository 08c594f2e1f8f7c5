-- What sides show: where nodes lead, what is derived there.
use Rattle.std.proofs.Common.{◌≡◌, ℕ, ◌+◌, List, [], ◌∷◌, ◌++◌, Some, append-nil, append_assoc, take-append-drop, drop, map, take, refl, sym, ap, subst, ◌∙◌, arith}
use Rattle.cfgrammar.specs.Grammar.{Sym, Rule}
use Rattle.cfgrammar.specs.Derivation.{Derives, none}
use Rattle.cfgrammar.specs.NumberedSymbols.{sym_of}
use Rattle.cfgrammar.specs.Openings.{nth_production}
use Rattle.derivation.proofs.Concatenation.{derives_left, derives_production, derives_right, derives_trans}
use Rattle.lr_states.specs.declared.Item.{Item}
use Rattle.lr_states.specs.Viable.{HasNext, item_at}
use Rattle.lr_states.proofs.Spines.{more_read, split_at, within_at}
use Rattle.lr_states.specs.Lookaheads.{HasUsed}
use Rattle.lr_conflicts.specs.declared.examples.nodes.Step.{Step}
use Rattle.lr_conflicts.specs.declared.examples.nodes.Step.TheVariants as steps
use Rattle.lr_conflicts.specs.Inner.Ways.{EachMade, IsOpen, IsRead, Setting, back_of}
use Rattle.lr_conflicts.proofs.Runs.{run_more}

module _ (S : Setting) where
  abbrev P : ℕ → List Sym → Type 0
  P = HasUsed S.grammar S.Used

  abbrev symbols : ℕ → List Sym
  symbols p = (nth_production S.grammar p).symbols

  abbrev Open : ℕ → ℕ → List Sym → List Sym → Type 0
  Open = IsOpen S

  abbrev Read : ℕ → Item → List Sym → List Sym → Type 0
  Read = IsRead S

  -- what a step makes is also so
  pub each_as : (s : Step) (P Q : List Sym → List Sym → Type 0) → ((prefix after : List Sym) → P prefix after → Q prefix after) → EachMade S s P → EachMade S s Q
  each_as steps.First P Q to each = to [] [] each
  each_as (steps.Read n x) P Q to each = λ prefix after h. to (prefix ++ sym_of (λ s. s) x ∷ []) after (each prefix after h)
  each_as (steps.Open n front) P Q to each = λ prefix after h. to prefix (map (sym_of (λ s. s)) front.now ++ after) (each prefix after h)

  -- the start rule itself
  pub begin_shown : Open 0 0 [] []
  begin_shown = record { derived = none; leads = refl }

  -- a used production of the rule, of which nothing is read
  pub entered_shown : (q p rule : ℕ) (prefix after : List Sym) → S.Used p → (nth_production S.grammar p).rule ≡ rule → Open q rule prefix after → Read q (item_at p 0) prefix after
  entered_shown q p rule prefix after used own o = record {
    before = prefix;
    derived = subst (λ r. Derives P (Rule 0 ∷ []) (prefix ++ Rule r ∷ after)) (sym own) o.derived;
    used = used;
    read = omega arith;
    is = sym (append-nil prefix);
    leads = o.leads;
  }

  -- one symbol more is read
  pub read_shown : (q r : ℕ) (item : Item) (x : Sym) (prefix after : List Sym) → HasNext S.grammar item x → S.step q x ≡ Some r → Read q item prefix after
      → Read r (item_at item.production (item.read + 1)) (prefix ++ x ∷ []) after
  read_shown q r item x prefix after at leads w = record {
    before = w.before;
    derived = w.derived;
    used = w.used;
    read = let within = within_at (symbols item.production) item.read x at in omega (arith, within);
    is = ap (λ l. l ++ x ∷ []) w.is ∙ more_read S.grammar S.Used w.before x item.production item.read at;
    leads = run_more S.step 0 prefix x q w.leads ∙ leads;
  }

  -- the rule that is next in an item
  pub next_shown : (q : ℕ) (item : Item) (rule : ℕ) (prefix after : List Sym) → HasNext S.grammar item (Rule rule) → Read q item prefix after
      → Open q rule prefix (back_of S item ++ after)
  next_shown q item rule prefix after at w =
      let p = item.production in
      let read = take item.read (symbols p) in
      let back = drop (item.read + 1) (symbols p) in
      let split : symbols p ≡ read ++ Rule rule ∷ back = split_at (symbols p) item.read (Rule rule) at (within_at (symbols p) item.read (Rule rule) at) in
      let opens : Derives P (Rule (nth_production S.grammar p).rule ∷ []) (symbols p) =
      derives_production P (nth_production S.grammar p).rule (symbols p) (record { index = p; used = w.used; owner = refl; is = refl }) in
      let all : Derives P (Rule 0 ∷ []) (w.before ++ (symbols p ++ after)) = derives_trans P w.derived (derives_left P w.before (derives_right P after opens)) in
      let is : w.before ++ (symbols p ++ after) ≡ prefix ++ Rule rule ∷ (back ++ after) =
      ap (λ l. w.before ++ (l ++ after)) split ∙ ap (λ l. w.before ++ l) (append_assoc read (Rule rule ∷ back) after)
      ∙ sym (append_assoc w.before read (Rule rule ∷ (back ++ after))) ∙ ap (λ l. l ++ Rule rule ∷ (back ++ after)) (sym w.is) in
      record { derived = subst (Derives P (Rule 0 ∷ [])) is all; leads = w.leads }

  -- the symbols after the rule derive others
  pub open_derives : (q rule : ℕ) (prefix a b rest : List Sym) → Derives P a b → Open q rule prefix (a ++ rest) → Open q rule prefix (b ++ rest)
  open_derives q rule prefix a b rest d o = record {
    derived = derives_trans P o.derived (derives_left P prefix (derives_left P (Rule rule ∷ []) (derives_right P rest d)));
    leads = o.leads;
  }

  -- a used production of the rule that comes first after another one
  pub unfolded_shown : (q rule first p : ℕ) (prefix rest : List Sym) → S.Used p → (nth_production S.grammar p).rule ≡ first → Open q rule prefix (Rule first ∷ rest)
      → Open q rule prefix (symbols p ++ rest)
  unfolded_shown q rule first p prefix rest used own o =
      open_derives q rule prefix (Rule first ∷ []) (symbols p) rest
      (derives_production P first (symbols p) (record { index = p; used = used; owner = own; is = refl })) o

  -- nullable symbols before the others are dropped
  pub dropped_shown : (q rule : ℕ) (prefix list rest : List Sym) (i : ℕ) → Derives P (take i list) [] → Open q rule prefix (list ++ rest) → Open q rule prefix (drop i list ++ rest)
  dropped_shown q rule prefix list rest i nullable o =
      open_derives q rule prefix (take i list) [] (drop i list ++ rest) nullable
      (subst (Open q rule prefix) (ap (λ l. l ++ rest) (sym (take-append-drop i list)) ∙ append_assoc (take i list) (drop i list) rest) o)
