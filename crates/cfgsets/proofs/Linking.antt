-- The productions that depend on rules, as links of one list: a further one is noted, and those that depend on a rule are queued.
use Rattle.std.proofs.Common.{◌≡◌, ◌↔◌, ℕ, zero, suc, ◌+◌, ◌<◌, ◌≤◌, ◌⊎◌, inl, inr, Bool, true, List, [], ◌∷◌, ◌++◌, Contains, get_or, length, replicate, slice_set, refl, sym, ap, ◌∙◌, subst, length-set, get_or-set_same, get_or-set_other, arith, ◌-◌}
use Rattle.std.proofs.Math.ListN.{get_or-map}
use Rattle.std.proofs.lemmas.Bool.{cases_eq, cases_lt}
use Rattle.std.proofs.lemmas.List.{get_or_append_left, get_or_push, get_or_default, get_or_past, length_push, length-map}
use Rattle.lemmas.proofs.Contained.{contains_cases, contains_first, contains_later, contains_none}
use Rattle.search.proofs.Bits.{bit_put}
use Rattle.cfgsets.specs.declared.dependents.Link.{Link}
use Rattle.cfgsets.specs.Inner.Links.{AreLinked, link_at, linked, lists_of}
use Rattle.cfgsets.specs.Waiting.{Waits}
use Rattle.cfgsets.specs.Work.{dependents_of, Notes, Queues}

-- each link leads to one before it
abbrev pub LeadBack : List Link → Type 0
LeadBack links = (index : ℕ) → (link_at links index).next ≤ index

-- a list has at most as many numbers as the number of its first link
pub linked_enough : (links : List Link) → LeadBack links → (most most' number : ℕ) → number ≤ most → number ≤ most'
    → linked links most number ≡ linked links most' number
linked_enough links back zero zero number le le' = refl
linked_enough links back zero (suc most') zero le le' = refl
linked_enough links back zero (suc most') (suc index) le le' = absurd (omega (arith, le))
linked_enough links back (suc most) zero zero le le' = refl
linked_enough links back (suc most) zero (suc index) le le' = absurd (omega (arith, le'))
linked_enough links back (suc most) (suc most') zero le le' = refl
linked_enough links back (suc most) (suc most') (suc index) le le' =
    let h = back index in
    ap (λ l. (link_at links index).production ∷ l)
    (linked_enough links back most most' (link_at links index).next (omega (arith, h, le)) (omega (arith, h, le')))

-- the list from a link on
pub linked_at : (links : List Link) → LeadBack links → (number index : ℕ) → number ≡ index + 1
    → linked links number number ≡ (link_at links index).production ∷ linked links (link_at links index).next (link_at links index).next
linked_at links back zero index is = absurd (omega (arith, is))
linked_at links back (suc k) index is =
    subst (λ i. linked links (suc k) (suc k) ≡ (link_at links i).production ∷ linked links (link_at links i).next (link_at links i).next) (omega (arith, is))
    (ap (λ l. (link_at links k).production ∷ l) (linked_enough links back k (link_at links k).next (link_at links k).next (back k) (omega arith)))

module _ (links : List Link) (link : Link) (back : LeadBack links) where
  kept : (index : ℕ) → index < length links → link_at (links ++ link ∷ []) index ≡ link_at links index
  kept index lt = get_or_append_left links (link ∷ []) _ index lt

  -- a further link changes no list
  linked_pushed : (most number : ℕ) → number ≤ length links → linked (links ++ link ∷ []) most number ≡ linked links most number
  linked_pushed zero number le = refl
  linked_pushed (suc most) zero le = refl
  linked_pushed (suc most) (suc index) le =
      let lt : index < length links = omega (arith, le) in
      let h = back index in
      subst (λ (l : Link). l.production ∷ linked (links ++ link ∷ []) most l.next ≡ linked links (suc most) (suc index)) (sym (kept index lt))
      (ap (λ l. (link_at links index).production ∷ l) (linked_pushed most (link_at links index).next (omega (arith, h, lt))))

  lead_back_pushed : link.next ≤ length links → LeadBack (links ++ link ∷ [])
  lead_back_pushed le index = elim (cases_lt index (length links)) [
    | inl lt ↦ subst (λ (l : Link). l.next ≤ index) (sym (kept index lt)) (back index)
    | inr past ↦ elim (cases_eq index (length links)) [
      | inl e ↦ subst (λ (l : Link). l.next ≤ index) (sym (get_or_push links link _ index (sym e))) (omega (arith, e, le))
      | inr ne ↦ subst (λ (l : Link). l.next ≤ index) (sym (get_or_past (links ++ link ∷ []) index _ (omega (arith, past, ne, length_push links link)))) (omega arith)
    ]
  ]

-- no links, no numbers
pub lists_none : (rules : ℕ) (links : List Link) → lists_of (replicate rules 0) links ≡ replicate rules []
lists_none zero links = refl
lists_none (suc rules) links = ap (λ l. [] ∷ l) (lists_none rules links)

-- the productions that depend on a rule
list_of : (heads : List ℕ) (links : List Link) (rule : ℕ) → dependents_of (lists_of heads links) rule ≡ linked links (get_or heads rule 0) (get_or heads rule 0)
list_of heads links rule = get_or-map (λ head. linked links head head) heads rule 0

module _ (heads heads' : List ℕ) (links links' : List Link) (rule p count : ℕ) (link : Link) (w : AreLinked heads links) (lt : rule < length heads)
    (is : link ≡ record { production = p; next = get_or heads rule 0 }) (pushed : links' ≡ links ++ link ∷ [])
    (last : count ≡ length links + 1) (put : heads' ≡ slice_set heads rule count) where
  next_is : link.next ≡ get_or heads rule 0
  next_is = ap (λ (l : Link). l.next) is

  next_within : link.next ≤ length links
  next_within = let h = w.within rule in omega (arith, next_is, h)

  here : get_or heads' rule 0 ≡ count
  here = ap (λ l. get_or l rule 0) put ∙ get_or-set_same heads rule count 0 lt

  there : (r : ℕ) → (r ≡ rule → ⊥) → get_or heads' r 0 ≡ get_or heads r 0
  there r ne = ap (λ l. get_or l r 0) put ∙ get_or-set_other heads rule r count 0 ne

  pub are_linked : AreLinked heads' links'
  are_linked = record {
    within = λ r. elim (cases_eq r rule) [
      | inl e ↦ let h = ap (λ k. get_or heads' k 0) e ∙ here in omega (arith, h, last, long)
      | inr ne ↦ let h = there r ne in let k = w.within r in omega (arith, h, k, long)
    ];
    before = subst LeadBack (sym pushed) (lead_back_pushed links link w.before next_within);
  }
    where
      long : length links' ≡ length links + 1
      long = ap length pushed ∙ length_push links link

  same_list : (number : ℕ) → number ≤ length links → linked links' number number ≡ linked links number number
  same_list number le = ap (λ l. linked l number number) pushed ∙ linked_pushed links link w.before number number le

  other_list : (r : ℕ) → (r ≡ rule → ⊥) → dependents_of (lists_of heads' links') r ≡ dependents_of (lists_of heads links) r
  other_list r ne = list_of heads' links' r ∙ ap (λ n. linked links' n n) (there r ne) ∙ same_list (get_or heads r 0) (w.within r) ∙ sym (list_of heads links r)

  new_list : dependents_of (lists_of heads' links') rule ≡ p ∷ dependents_of (lists_of heads links) rule
  new_list = list_of heads' links' rule ∙ ap (λ n. linked links' n n) here ∙ linked_at links' are_linked.before count (length links) last
      ∙ ap (λ (l : Link). l.production ∷ linked links' l.next l.next) new_link ∙ ap (λ l. p ∷ l) (same_list (get_or heads rule 0) (w.within rule) ∙ sym (list_of heads links rule))
    where
      new_link : link_at links' (length links) ≡ record { production = p; next = get_or heads rule 0 }
      new_link = ap (λ l. link_at l (length links)) pushed ∙ get_or_push links link _ (length links) refl ∙ is

  pub notes_linked : Notes p (λ r. r ≡ rule) (lists_of heads links) (lists_of heads' links')
  notes_linked = record {
    shape = length-map heads' _ ∙ ap length put ∙ length-set heads rule count ∙ sym (length-map heads _);
    dependents = λ r q. elim (cases_eq r rule) [
      | inl e ↦ subst (λ k. Contains (dependents_of (lists_of heads' links') k) q ↔ (Contains (dependents_of (lists_of heads links) k) q ⊎ ((q ≡ p) × (k ≡ rule)))) (sym e)
          (subst (λ l. Contains l q ↔ (Contains (dependents_of (lists_of heads links) rule) q ⊎ ((q ≡ p) × (rule ≡ rule)))) (sym new_list) (
            (λ h. elim (contains_cases p q _ h) [ inl i ↦ inr (sym i, refl) | inr i ↦ inl i ]),
            (λ h. elim h [ inl i ↦ contains_later p q _ i | inr i ↦ subst (Contains (p ∷ _)) (sym i.0) (contains_first p _) ]),
          ))
      | inr ne ↦ subst (λ l. Contains l q ↔ (Contains (dependents_of (lists_of heads links) r) q ⊎ ((q ≡ p) × (r ≡ rule)))) (sym (other_list r ne))
          ((λ h. inl h), (λ h. elim h [ inl i ↦ i | inr i ↦ absurd (ne i.1) ]))
    ];
  }

-- the numbers of a list were queued, but for those that are left
pub record QueuesBut (list left : List ℕ) (old new : List Bool) : Type 0 where
  pub shape : length new ≡ length old
  pub among : (q : ℕ) → Contains left q → Contains list q
  pub waits : (q : ℕ) → ((Waits new q ⊎ Contains left q) ↔ (Waits old q ⊎ Contains list q))

module _ (list : List ℕ) where
  pub queues_none : (x : List Bool) → QueuesBut list list x x
  queues_none x = record { shape = refl; among = λ q h. h; waits = λ q. ((λ h. h), (λ h. h)) }

  pub queues_one : (p : ℕ) (left : List ℕ) (old mid new : List Bool) → p < length mid → QueuesBut list (p ∷ left) old mid → new ≡ slice_set mid p true
      → QueuesBut list left old new
  queues_one p left old mid new lt w put = subst (λ l. QueuesBut list left old l) (sym put) (record {
    shape = length-set mid p true ∙ w.shape;
    among = λ q h. w.among q (contains_later p q left h);
    waits = λ q. (
      (λ h. (w.waits q).0 (elim h [
        | inl i ↦ elim ((bit_put mid p lt q).0 i) [ inl j ↦ inl j | inr e ↦ inr (subst (Contains (p ∷ left)) (sym e) (contains_first p left)) ]
        | inr i ↦ inr (contains_later p q left i)
      ])),
      (λ h. elim ((w.waits q).1 h) [
        | inl i ↦ inl ((bit_put mid p lt q).1 (inl i))
        | inr i ↦ elim (contains_cases p q left i) [ inl e ↦ inl ((bit_put mid p lt q).1 (inr (sym e))) | inr j ↦ inr j ]
      ]),
    );
  })

  queues_all : (dependents : List (List ℕ)) (rule : ℕ) (old new : List Bool) → list ≡ dependents_of dependents rule → QueuesBut list [] old new
      → Queues dependents (λ r. r ≡ rule) old new
  queues_all dependents rule old new is w = record {
    shape = w.shape;
    waits = λ q. (
      (λ h. elim ((w.waits q).0 (inl h)) [ inl i ↦ inl i | inr i ↦ inr (record { rule = rule; gains = refl; noted = subst (λ l. Contains l q) is i }) ]),
      (λ h. elim ((w.waits q).1 (elim h [
        | inl i ↦ inl i
        | inr i ↦ inr (subst (λ l. Contains l q) (sym is) (subst (λ r. Contains (dependents_of dependents r) q) i.gains i.noted))
      ])) [ inl i ↦ i | inr i ↦ absurd (contains_none q i) ]),
    );
  }

  -- after the last link
  pub queues_last : (dependents : List (List ℕ)) (rule number : ℕ) (links : List Link) (old new : List Bool) → list ≡ dependents_of dependents rule → number ≡ 0
      → QueuesBut list (linked links number number) old new → Queues dependents (λ r. r ≡ rule) old new
  queues_last dependents rule number links old new is last w = queues_all dependents rule old new is (subst (λ n. QueuesBut list (linked links n n) old new) last w)

  module _ (links : List Link) (number : ℕ) (link : Link) (old mid : List Bool) (back : LeadBack links) (more : 0 < number) (within : number ≤ length links)
      (is : link ≡ get_or links (number - 1) link) (w : QueuesBut list (linked links number number) old mid) where
    link_is : link ≡ link_at links (number - 1)
    link_is = is ∙ get_or_default links (number - 1) link _ (omega (arith, more, within))

    begins : QueuesBut list (link.production ∷ linked links link.next link.next) old mid
    begins = subst (λ l. QueuesBut list l old mid) (linked_at links back number (number - 1) (omega (arith, more))
        ∙ ap (λ (l : Link). l.production ∷ linked links l.next l.next) (sym link_is)) w

    pub link_within : ((p : ℕ) → Contains list p → p < length old) → link.production < length mid
    link_within below = subst (λ n. link.production < n) (sym w.shape) (below link.production (begins.among link.production (contains_first link.production _)))

    pub link_less : link.next < number
    link_less = let h = subst (λ (l : Link). l.next ≤ number - 1) (sym link_is) (back (number - 1)) in omega (arith, h, more)

    pub link_queued : (new : List Bool) → link.production < length mid → new ≡ slice_set mid link.production true → QueuesBut list (linked links link.next link.next) old new
    link_queued new lt put = queues_one link.production _ old mid new lt begins put

-- the list of a rule begins with the link that its head names
pub head_within : (heads : List ℕ) (links : List Link) (rule head : ℕ) → AreLinked heads links → rule < length heads → head ≡ get_or heads rule head → head ≤ length links
head_within heads links rule head w lt is = let e = is ∙ get_or_default heads rule head 0 lt in let h = w.within rule in omega (arith, e, h)

pub head_list : (heads : List ℕ) (links : List Link) (rule head : ℕ) (dependents : List (List ℕ)) → rule < length heads → head ≡ get_or heads rule head → lists_of heads links ≡ dependents
    → dependents_of dependents rule ≡ linked links head head
head_list heads links rule head dependents lt is shown = ap (λ l. dependents_of l rule) (sym shown) ∙ list_of heads links rule
    ∙ ap (λ n. linked links n n) (sym (is ∙ get_or_default heads rule head 0 lt))

pub heads_long : (heads : List ℕ) (links : List Link) (rule : ℕ) (dependents : List (List ℕ)) → lists_of heads links ≡ dependents → rule < length dependents → rule < length heads
heads_long heads links rule dependents shown lt = subst (λ n. rule < n) (ap length (sym shown) ∙ length-map heads _) lt
