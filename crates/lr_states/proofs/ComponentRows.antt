-- What the row of a component says, if those of the earlier components are right.
use Rattle.std.proofs.Common.{◌≡◌, ℕ, ◌+◌, ◌<◌, ◌≤◌, inl, inr, Bool, false, List, [], ◌∷◌, ◌++◌, All, Contains, get_or, length, map, replicate, slice_index, arith, refl, sym, ap, ◌∙◌, subst, true≢false}
use Rattle.std.proofs.lemmas.Bool.{cases_lt}
use Rattle.std.proofs.lemmas.List.{get_or-map, get_or_append_left, get_or_push, length-replicate, length_push}
use Rattle.std.proofs.lemmas.List.Elements.{All-nil, All-push, All-same, Contains-get_or}
use Rattle.cfgrammar.proofs.Elements.{get_or-replicate_default}
use Rattle.search.specs.Components.{AreComponents, ReachableFrom}
use Rattle.search.specs.Reachable.{FoundBy, led, seed}
use Rattle.lr_states.specs.Inner.Reached.{HasReached, IsOn, Leads, Shows, TurnsOn}

-- each node of a component that has a row has reached what the row says
abbrev pub AreRight : List (List ℕ) → ℕ → List ℕ → List (List Bool) → Type 0
AreRight lists bound numbers rows = (node : ℕ) → node < length lists → slice_index numbers node < length rows
    → HasReached lists bound node (get_or rows (slice_index numbers node) [])

module _ (lists : List (List ℕ)) (bound : ℕ) (numbers : List ℕ) (members : List (List ℕ)) (are : AreComponents (Leads lists) (length lists) numbers members)
    (rows : List (List Bool)) where
  through : (a b : ℕ) → ReachableFrom (Leads lists) a b → {c : ℕ} → ReachableFrom (Leads lists) b c → ReachableFrom (Leads lists) a c
  through a b first {c = c} (seed same) = subst (ReachableFrom (Leads lists) a) (sym same) first
  through a b first {c = c} (led {a = d} more edge) = led (through a b first more) edge

  -- the node is in the next component, or is reached by an edge from there to an earlier one
  data Meets (node : ℕ) : Type 0 where
    inside : node < length lists → slice_index numbers node ≡ length rows → Meets node
    outside : (member to : ℕ) → member < length lists → slice_index numbers member ≡ length rows → Leads lists member to → slice_index numbers to < length rows
        → ReachableFrom (Leads lists) to node → Meets node

  meets : (start : ℕ) → start < length lists → slice_index numbers start ≡ length rows → {node : ℕ} → ReachableFrom (Leads lists) start node → Meets node
  meets start lt next {node = node} (seed same) = subst Meets (sym same) (inside lt next)
  meets start lt next {node = node} (led {a = before} more edge) = elim (meets start lt next more) [
    | inside within number ↦
        let order = are.order before node within edge in
        elim (cases_lt (slice_index numbers node) (length rows)) [
          | inl earlier ↦ outside before node within number edge earlier (seed refl)
          | inr same ↦ inside order.0 (omega (arith, same, order.1, number))
        ]
    | outside member to within number first earlier rest ↦ outside member to within number first earlier (led rest edge)
  ]

  module _ (right : AreRight lists bound numbers rows) (row : List Bool)
      (turned : TurnsOn (FoundBy (Shows lists numbers rows) (get_or members (length rows) [])) (replicate bound false) row) where
    -- the row is right for each node of the component
    row_right : (node : ℕ) → node < length lists → slice_index numbers node ≡ length rows → HasReached lists bound node row
    row_right node lt next = record {
      bits = turned.bits ∙ length-replicate bound false;
      each = λ t h. (sound t h, complete t h);
    }
      where
        below : (t : ℕ) → t < bound → t < length (replicate bound false)
        below t h = subst (λ n. t < n) (sym (length-replicate bound false)) h

        sound : (t : ℕ) → t < bound → IsOn row t → ReachableFrom (Leads lists) node t
        sound t h on = elim ((turned.each t).0 on) [
          | inl was ↦ absurd (true≢false (sym was ∙ get_or-replicate_default bound t false))
          | inr new ↦
              let found = new.1 in
              let member = ((are.each (length rows)).all found.thing).0 found.among in
              through node found.thing (((are.same node found.thing lt member.0).0 (next ∙ sym member.1)).0) (elim found.finds [
                | inl this ↦ seed (sym this)
                | inr there ↦
                    let order = are.order found.thing there.thing member.0 there.among in
                    through found.thing there.thing (led (seed refl) there.among) (((right there.thing order.0 there.finds.earlier).each t h).0 there.finds.on)
              ])
        ]

        complete : (t : ℕ) → t < bound → ReachableFrom (Leads lists) node t → IsOn row t
        complete t h reached = (turned.each t).1 (inr (
          below t h,
          elim (meets node lt next reached) [
            | inside within number ↦ record { thing = t; among = ((are.each (length rows)).all t).1 (within, number); finds = inl refl }
            | outside member to within number edge earlier rest ↦ record {
              thing = member;
              among = ((are.each (length rows)).all member).1 (within, number);
              finds = inr (record {
                thing = to;
                among = edge;
                finds = record { earlier = earlier; on = ((right to (are.order member to within edge).0 earlier).each t h).1 rest };
              });
            }
          ],
        ))

    pub right_more : AreRight lists bound numbers (rows ++ row ∷ [])
    right_more node lt h = elim (cases_lt (slice_index numbers node) (length rows)) [
      | inl earlier ↦ subst (HasReached lists bound node) (sym (get_or_append_left rows (row ∷ []) [] (slice_index numbers node) earlier)) (right node lt earlier)
      | inr last ↦
          let next : slice_index numbers node ≡ length rows = omega (arith, last, h, length_push rows row) in
          subst (HasReached lists bound node) (sym (get_or_push rows row [] (slice_index numbers node) (sym next))) (row_right node lt next)
    ]

-- The rows of the components below this one are right, and each has so many bits.
pub record AreRows (lists : List (List ℕ)) (bound : ℕ) (numbers : List ℕ) (component : ℕ) (rows : List (List Bool)) : Type 0 where
  pub entries : length rows ≡ component
  pub bits : All (λ row. length row ≡ bound) rows
  pub right : AreRight lists bound numbers rows

pub no_rows : (lists : List (List ℕ)) (bound : ℕ) (numbers : List ℕ) (rows : List (List Bool)) → rows ≡ [] → AreRows lists bound numbers 0 rows
no_rows lists bound numbers rows none = record {
  entries = ap length none;
  bits = let HasBits : List Bool → Type 0 = λ row. length row ≡ bound in All-same HasBits rows [] none (All-nil HasBits);
  right = λ node lt number. absurd (omega (arith, number, ap length none));
}

module _ (lists : List (List ℕ)) (bound : ℕ) (numbers : List ℕ) (members : List (List ℕ)) (are : AreComponents (Leads lists) (length lists) numbers members) where
  pub members_within : (component : ℕ) (nodes : List ℕ) → nodes ≡ get_or members component [] → All (λ node. node < length lists) nodes
  members_within component nodes is k d lt = (((are.each component).all (get_or nodes k d)).0 (subst (λ l. Contains l (get_or nodes k d)) is (Contains-get_or nodes k d lt))).0

  -- one more row
  pub row_pushed : (component : ℕ) (rows new : List (List Bool)) (row : List Bool) → AreRows lists bound numbers component rows → new ≡ rows ++ row ∷ []
      → TurnsOn (FoundBy (Shows lists numbers rows) (get_or members component [])) (replicate bound false) row → AreRows lists bound numbers (component + 1) new
  row_pushed component rows new row w is turned = record {
    entries = let long = ap length is ∙ length_push rows row in omega (arith, long, w.entries);
    bits =
        let HasBits : List Bool → Type 0 = λ r. length r ≡ bound in
        All-same HasBits new (rows ++ row ∷ []) is (All-push HasBits rows row w.bits (turned.bits ∙ length-replicate bound false));
    right = subst (AreRight lists bound numbers) (sym is) (right_more lists bound numbers members are rows w.right row
        (subst (λ n. TurnsOn (FoundBy (Shows lists numbers rows) (get_or members n [])) (replicate bound false) row) (sym w.entries) turned));
  }

  module _ (component : ℕ) (rows : List (List Bool)) (w : AreRows lists bound numbers component rows) (all : length members ≤ component) where
    -- and each node has reached what the row of its component says
    pub row_shown : (node : ℕ) → node < length lists → HasReached lists bound node (get_or (map (λ number. get_or rows number []) numbers) node [])
    row_shown node lt = subst (HasReached lists bound node) (sym (get_or-map (λ number. get_or rows number []) numbers node 0 [] (omega (arith, lt, are.entries))))
        (w.right node lt (omega (arith, are.within node lt, all, w.entries)))
