-- Names and their nodes: what is reachable among names is what is reachable among nodes.
use Rattle.std.proofs.Common.{◌≡◌, ◌↔◌, ℕ, ◌+◌, ◌<◌, inl, inr, List, [], map, length, position, Contains, ◌⊎◌, slice_get, option_map, Option, Some, None, is_some, arith, refl, sym, ap, ◌∙◌, subst}
use Rattle.std.specs.List.{IsDistinct, position_or_len}
use Rattle.std.specs.Map.{lookup}
use Rattle.std.specs.Str.{bytes_eq}
use Rattle.std.specs.Cmp.Lexicographic.{bytes_decides, nat_list_eq_equiv}
use Rattle.std.proofs.lemmas.List.{length-map}
use Rattle.std.proofs.lemmas.List.Quantifiers.{position-Some}
use Rattle.std.proofs.lemmas.Map.Made.{is_some-lookup}
use Rattle.std.proofs.lemmas.Option.{slice_get-get_or, slice_get-map, slice_get_within, same_Some}
use Rattle.lemmas.proofs.Positions.{first_position, position-distinct}
use Rattle.search.specs.Nodes.{IsEdge, Knows as KnowsNodes}
use Rattle.search.specs.Reachable.{FoundBy, IsReachableIn, Reachable, Reaches, SearchState}
use Rattle.search.proofs.Nodes.{knows as knows_nodes}
use Rattle.search.proofs.Reaching.{reaches_as, reaches_known, reaches_then}
use Rattle.cfgbase.specs.declared.span.Span.{Span}
use Rattle.cfgitems.specs.Syntax.{Syntax, Rule, entry_name}
use Rattle.cfgast.specs.Unused.{Name, RuleName, TokenName, Refers, IsStart, Leads, Expected, implicit, name_of, entry_token, named as expected_name}
use Rattle.cfgast.specs.Inner.Nodes.{nodes, IsNodeOf, RefersAt, Knows}

-- a name is found where it is, if names differ
found_at : (names : List (List ℕ)) (name : List ℕ) (i : ℕ) → position (bytes_eq name) names ≡ Some i → slice_get names i ≡ Some name
found_at names name i found =
    let at = position-Some (bytes_eq name) names i [] found in
    slice_get-get_or names i [] at.0 ∙ ap Some (sym ((bytes_decides _ _).0 at.1))

pub found_if_there : (names : List (List ℕ)) → IsDistinct bytes_eq names → (name : List ℕ) (i : ℕ) → (position (bytes_eq name) names ≡ Some i) ↔ (slice_get names i ≡ Some name)
found_if_there names distinct name i = (found_at names name i, position-distinct nat_list_eq_equiv names i name distinct)

module _ (s : Syntax) where
  pub token_found : IsDistinct bytes_eq s.tokens → (name : List ℕ) (n : ℕ)
      → (option_map (λ index. length s.rules + index) (position (bytes_eq name) s.tokens) ≡ Some n) ↔ IsNodeOf s (TokenName name) n
  token_found distinct name n = (
    found (position (bytes_eq name) s.tokens) refl,
    (λ h. ap (option_map (λ index. length s.rules + index)) ((found_if_there s.tokens distinct name h.0).1 h.2) ∙ ap Some (sym h.1)),
  )
    where
      found : (o : Option ℕ) → position (bytes_eq name) s.tokens ≡ o → option_map (λ index. length s.rules + index) o ≡ Some n → IsNodeOf s (TokenName name) n
      found None at e = cc
      found (Some index) at e = (index, sym (same_Some _ _ e), found_at s.tokens name index at)

  rule_within : (name : List ℕ) (n : ℕ) → IsNodeOf s (RuleName name) n → n < length s.rules
  rule_within name n at = subst (λ m. n < m) (length-map s.rules entry_name) (slice_get_within (map entry_name s.rules) n name at)

  same_name : (a b : Name) (n : ℕ) → IsNodeOf s a n → IsNodeOf s b n → a ≡ b
  same_name (RuleName name) (RuleName other) n at there = ap RuleName (same_Some _ _ (sym at ∙ there))
  same_name (RuleName name) (TokenName other) n at (index, behind, there) = let within = rule_within name n at in absurd (omega (arith, within, behind))
  same_name (TokenName name) (RuleName other) n (index, behind, there) at = let within = rule_within other n at in absurd (omega (arith, within, behind))
  same_name (TokenName name) (TokenName other) n (i, behind, at) (j, so, there) =
      let same : i ≡ j = omega (arith, behind, so) in ap TokenName (same_Some _ _ (sym at ∙ ap (slice_get s.tokens) same ∙ there))

  pub node_within : (name : Name) (n : ℕ) → IsNodeOf s name n → n < nodes s
  node_within (RuleName name) n at = let within = rule_within name n at in omega (arith, within)
  node_within (TokenName name) n (index, behind, at) = let within = slice_get_within s.tokens index name at in omega (arith, behind, within)

  -- what leads to something is a rule that is found by its name
  leader : (a b : Name) → Leads s a b → (n : ℕ) × IsNodeOf s a n
  leader (RuleName name) b h =
      let names = map entry_name s.rules in
      let known = sym (is_some-lookup (bytes_eq name) s.rules) ∙ ap is_some h.named in
      (position_or_len (bytes_eq name) names, found_at names name _ (first_position (bytes_eq name) names known))
  leader (TokenName name) b h = absurd h

module _ (s : Syntax) where
  -- the nodes of what is expected to be unused
  abbrev pub ExpectedNode : ℕ → Type 0
  ExpectedNode node = (name : Name) × Expected s name × IsNodeOf s name node

  pub expected_named : (old new : SearchState) → s.tables.implicit_tokens ≡ None → Reaches (FoundBy (IsNodeOf s) (map name_of s.expect_unused)) old new
      → Reaches ExpectedNode old new
  expected_named old new none w = reaches_as _ ExpectedNode old new
      (λ n h. (h.thing, expected_name h.among, h.finds))
      (λ n h. record { thing = h.0; among = among h.0 h.1; finds = h.2 })
      w
    where
      among : (name : Name) → Expected s name → Contains (map name_of s.expect_unused) name
      among name (expected_name h) = h
      among name (implicit {table = table} given h) = let no : None ≡ Some table = sym none ∙ given in cc

  pub expected_both : (table : List (List ℕ × Span)) (old mid new : SearchState) → s.tables.implicit_tokens ≡ Some table
      → Reaches (FoundBy (IsNodeOf s) (map name_of s.expect_unused)) old mid → Reaches (FoundBy (IsNodeOf s) (map entry_token table)) mid new
      → Reaches ExpectedNode old new
  expected_both table old mid new some w v = reaches_as _ ExpectedNode old new
      (λ n h. elim h [
        | inl i ↦ (i.thing, expected_name i.among, i.finds)
        | inr i ↦ (i.thing, implicit some i.among, i.finds)
      ])
      (λ n h. among n h.0 h.1 h.2)
      (reaches_then _ _ old mid new w v)
    where
      among : (n : ℕ) (name : Name) → Expected s name → IsNodeOf s name n
          → FoundBy (IsNodeOf s) (map name_of s.expect_unused) n ⊎ FoundBy (IsNodeOf s) (map entry_token table) n
      among n name (expected_name h) is = inl (record { thing = name; among = h; finds = is })
      among n name (implicit given h) is =
          inr (record { thing = name; among = subst (λ t. Contains (map entry_token t) name) (same_Some _ _ (sym given ∙ some)) h; finds = is })

  -- what the productions of a node's rule hold is what the node leads to
  pub leads_to : (node : ℕ) (name : List ℕ) (head : Rule) (old new : SearchState) → IsNodeOf s (RuleName name) node
      → lookup (bytes_eq name) s.rules ≡ Some head → Reaches (FoundBy (RefersAt s) head.productions) old new → Reaches (IsEdge (IsNodeOf s) (Leads s) node) old new
  leads_to node name head old new at found w = reaches_as _ _ old new
      (λ n h. record {
        from = RuleName name;
        there = at;
        to = h.finds.holds.thing;
        leads = record {
          head = head;
          named = found;
          index = h.thing;
          listed = h.among;
          production = h.finds.production;
          there = h.finds.there;
          holds = h.finds.holds.among;
        };
        is = h.finds.holds.finds;
      })
      (λ n h. from n h.to h.is (subst (λ name. Leads s name h.to) (same_name s h.from (RuleName name) node h.there at) h.leads))
      w
    where
      from : (n : ℕ) (to : Name) → IsNodeOf s to n → Refers s name to → FoundBy (RefersAt s) head.productions n
      from n to is h = record {
        thing = h.index;
        among = subst (λ (r : Rule). Contains r.productions h.index) (same_Some _ _ (sym h.named ∙ found)) h.listed;
        finds = record { production = h.production; there = h.there; holds = record { thing = to; among = h.holds; finds = is } };
      }

  -- a token leads to nothing
  pub leads_nowhere : (node : ℕ) (x : SearchState) → slice_get s.rules node ≡ None → Reaches (IsEdge (IsNodeOf s) (Leads s) node) x x
  leads_nowhere node x none = reaches_known _ x (λ n h. absurd (nothing h.from h.there h.to h.leads))
    where
      nothing : (from : Name) → IsNodeOf s from node → (to : Name) → Leads s from to → ⊥
      nothing (TokenName name) at to h = h
      nothing (RuleName name) at to h = let no : None ≡ Some name = sym (slice_get-map entry_name s.rules node ∙ ap (option_map entry_name) none) ∙ at in cc

  -- a search from the start rule that then reached what is expected to be unused
  pub knows : (Root : ℕ → Type 0) → ((n : ℕ) → (Root n ↔ ((name : Name) × IsStart s name × IsNodeOf s name n))) → (mid new : SearchState) → length mid.reachable ≡ nodes s
      → ((n : ℕ) → (IsReachableIn mid n ↔ Reachable Root (IsEdge (IsNodeOf s) (Leads s)) n)) → Reaches ExpectedNode mid new → Knows s new
  knows Root roots mid new long found w = record {
    shape = w.shape ∙ long;
    each = λ node name at. (
      (λ h. elim ((w.reachable node).0 h) [ inl i ↦ inl ((known name node at).0 i) | inr k ↦ inr (subst (Expected s) (same_name s k.0 name node k.2 at) k.1) ]),
      (λ h. (w.reachable node).1 (elim h [ inl i ↦ inl ((known name node at).1 i) | inr i ↦ inr (name, i, at) ])),
    );
  }
    where
      known : KnowsNodes (IsNodeOf s) (Leads s) (IsStart s) mid
      known = knows_nodes (IsNodeOf s) (Leads s) (IsStart s) (same_name s) (leader s) Root roots mid found
