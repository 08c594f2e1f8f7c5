-- What the steps of a way make, walked back from its last node.
use Rattle.std.proofs.Common.{Bor, ◌≡◌, ℕ, zero, suc, ◌<◌, List, [], ◌∷◌, ◌++◌, Some, Contains, append-nil, append_assoc, map, reverse, slice_get, refl, sym, ap, subst, ◌∙◌, arith}
use Rattle.std.specs.Map.{lookup}
use Rattle.std.proofs.lemmas.List.{map-append, map_push, reverse-append}
use Rattle.std.proofs.lemmas.Map.Views.{Contains-from_lookup}
use Rattle.indexmap.proofs.ReorderLemmas.{map-reverse}
use Rattle.search.proofs.PathGroups.{contains_at, contains_there}
use Rattle.cfgindex.specs.declared.idxnewtype.Symbol.{Symbol}
use Rattle.cfgrammar.specs.Grammar.{Sym}
use Rattle.lr_conflicts.specs.declared.examples.Side.{Side}
use Rattle.lr_conflicts.specs.declared.examples.nodes.Node.{Node}
use Rattle.lr_conflicts.specs.declared.examples.nodes.Step.{Step}
use Rattle.lr_conflicts.specs.declared.examples.nodes.Step.TheVariants as steps
use Rattle.lr_conflicts.specs.contracts.examples.nodes.NodePartialEq.TheImpl.{ghosts as compared}
use Rattle.lr_conflicts.specs.Inner.Ways.{AreSteps, EachMade, EachShown, HasNode, IsShown, IsSideWith, Setting, Shown, parent_of}
use Rattle.lr_conflicts.proofs.Compared.{at_before, before, before_least, nodes_same}
use Rattle.lr_conflicts.proofs.Showing.{f}

module _ (S : Setting) (es : List (Node × Step)) where
  -- Whatever shows the last node that was come to, the symbols walked so far make of it what shows the first one. They are read from the last one
  -- back, and put one after the other.
  pub record IsWalked (node : Node) (front : List Sym) (last : Node) (back rest : List (Symbol ℕ)) : Type 0 where
    pub there : HasNode es last
    pub more : List Sym
    pub is : map f rest ≡ front ++ more
    pub shown : EachShown S last (λ prefix after. Shown S node (prefix ++ reverse (map f back)) (more ++ after))

  pub walked_none : (node : Node) (front : List Sym) → HasNode es node → (rest : List (Symbol ℕ)) → map f rest ≡ front → IsWalked node front node [] rest
  walked_none node front there rest is = record {
    there = there;
    more = [];
    is = is ∙ sym (append-nil front);
    shown = λ prefix after h. subst (λ l. Shown S node l after) (sym (append-nil prefix)) h;
  }

  module _ (are : AreSteps S es) where
    made_shown : (n : Node) (s : Step) → EachMade S s (Shown S n) → ((m : Node) → parent_of s ≡ Some m → IsShown S m) → IsShown S n
    made_shown n steps.First each parent = record { prefix = []; after = []; shown = each }
    made_shown n (steps.Read m x) each parent =
        let w = parent m refl in record { prefix = w.prefix ++ f x ∷ []; after = w.after; shown = each w.prefix w.after w.shown }
    made_shown n (steps.Open m front) each parent =
        let w = parent m refl in record { prefix = w.prefix; after = map f front.now ++ w.after; shown = each w.prefix w.after w.shown }

    first_shown : (bound k : ℕ) → k < bound → (n : Node) (s : Step) → slice_get es k ≡ Some (n, s) → IsShown S n
    first_shown zero k low n s at = absurd (omega (arith, low))
    first_shown (suc bound) k low n s at = made_shown n s (are.shown n s (contains_there es k (n, s) at))
        (λ m is.
        let w = are.parent k n s at m is in
        let earlier = w.before in
        first_shown bound w.number (omega (arith, low, earlier)) m w.step w.is)

    -- each node that was found is shown by some side
    pub known_shown : (n : Node) → HasNode es n → IsShown S n
    known_shown n (s, h) = let (k, at) = contains_at es (n, s) h in first_shown (suc k) k (omega arith) n s at

    parent_known : (n : Node) (s : Step) → Contains es (n, s) → (m : Node) → parent_of s ≡ Some m → HasNode es m
    parent_known n s h m is =
        let (k, at) = contains_at es (n, s) h in
        let w = are.parent k n s at m is in
        (w.step, contains_there es w.number (m, w.step) w.is)

    -- nodes that were found earlier are before others
    pub earlier : (n m : Node) (s : Step) → lookup (compared.eq n) es ≡ Some s → parent_of s ≡ Some m → before es m < before es n
    earlier n m s there is =
        let w = are.parent (before es n) n s (at_before n s es there) m is in
        let low = w.before in
        let least = before_least m w.step es w.number w.is in
        omega (arith, low, least)

    module _ (node : Node) (front : List Sym) (last : Node) (back rest : List (Symbol ℕ)) (w : IsWalked node front last back rest) where
      pub walked_read : (m : Node) (x : Symbol ℕ) → lookup (compared.eq last) es ≡ Some (steps.Read m x) → IsWalked node front m (back ++ x ∷ []) rest
      walked_read m x there =
          let s = steps.Read m x in
          let among = Contains-from_lookup nodes_same last s es there in
          let turned : reverse (map f (back ++ x ∷ [])) ≡ f x ∷ reverse (map f back) = ap reverse (map_push f back x) ∙ reverse-append (map f back) (f x ∷ []) in
          record {
            there = parent_known last s among m refl;
            more = w.more;
            is = w.is;
            shown = λ prefix after h. subst (λ l. Shown S node l (w.more ++ after))
                (append_assoc prefix (f x ∷ []) (reverse (map f back)) ∙ ap (λ l. prefix ++ l) (sym turned))
                (w.shown (prefix ++ f x ∷ []) after (are.shown last s among prefix after h));
          }

      pub walked_open : (m : Node) (symbols : Bor (List (Symbol ℕ))) → lookup (compared.eq last) es ≡ Some (steps.Open m symbols) → IsWalked node front m back (rest ++ symbols.now)
      walked_open m symbols there =
          let s = steps.Open m symbols in
          let among = Contains-from_lookup nodes_same last s es there in
          let put = map f symbols.now in
          record {
            there = parent_known last s among m refl;
            more = w.more ++ put;
            is = map-append f rest symbols.now ∙ ap (λ l. l ++ put) w.is ∙ append_assoc front w.more put;
            shown = λ prefix after h. subst (Shown S node (prefix ++ reverse (map f back))) (sym (append_assoc w.more put after))
                (w.shown prefix (put ++ after) (are.shown last s among prefix after h));
          }

      pub walked_all : lookup (compared.eq last) es ≡ Some steps.First → (side : Side) → side.prefix.items ≡ reverse back → side.rest.items ≡ rest
          → IsSideWith S node front side
      walked_all there side prefix after =
          let among = Contains-from_lookup nodes_same last steps.First es there in
          let turned : map f side.prefix.items ≡ reverse (map f back) = ap (map f) prefix ∙ map-reverse f back in
          record {
            after = w.more ++ [];
            shown = subst (λ l. Shown S node l (w.more ++ [])) (sym turned) (w.shown [] [] (are.shown last steps.First among));
            rest = ap (map f) after ∙ w.is ∙ ap (λ l. front ++ l) (sym (append-nil w.more));
          }
