-- The loop over the pieces up to a closing bracket.
use Rattle.std.proofs.Common.{◌≡◌, ℕ, ◌+◌, ◌<◌, ◌≤◌, Bool, true, false, cond, List, [], ◌∷◌, ◌++◌, length, fold, Option, Some, None, Ok, refl, sym, ap, subst, ◌∙◌, arith, append_assoc}
use Rattle.std.specs.Prelude.{nat_le}
use Rattle.std.proofs.lemmas.List.Sums.{fold-append}
use denote.Ref.{Bor}
use Rattle.constructs.specs.Read.{Read, prefixed}
use Rattle.constructs.specs.Construct.{computes, gives}
use Rattle.constructs.specs.Steps.{Grows}
use Rattle.constructs.proofs.Agree.{leaves}
use Rattle.bison_words.specs.declared.nesting.Nesting.{Nesting}
use Rattle.bison_words.specs.declared.nesting.Nesting.TheVariants.{Opens, Lowers, Closes, Stays}
use Rattle.bison_words.specs.declared.nesting.Depth.{Depth}
use Rattle.bison_words.specs.declared.scanner.Scanner.{Scanner}
use Rattle.bison_words.specs.Words.{Item}
use Rattle.bison_words.specs.Here.{Turn as Pieces}
use Rattle.bison_words.specs.Nested.{Passage, after_piece, outermost, ended, with_items, onward, passage}
use Rattle.bison_words.specs.NestedHere.{emits_all, closing}
use Rattle.bison_words.specs.NestedGraph.{passage_next}
use Rattle.bison_words.specs.Inner.Builds.{Builds, Passed, scanner_kind, add, made_by}
use Rattle.bison_words.proofs.Loops.{passed_on}

-- emitting items
emits_all_reads : (items : List Item) (closed : Bool) (rest : List ℕ)
    → ◌≡◌ {A = Read Item ⊥ Bool} (computes (emits_all items (gives closed)) rest) (record { items = items; outcome = Ok (closed, rest) })
unfolding emits_all
emits_all_reads [] closed rest = refl
emits_all_reads (item ∷ items) closed rest = ap (prefixed (item ∷ [])) (emits_all_reads items closed rest)

abbrev pub read_of : Passage → Read Item ⊥ Bool
read_of p = record { items = p.found.items; outcome = Ok (p.found.closed, p.rest) }

pub closing_reads : (piece : Pieces Nesting) (text : List ℕ) → computes (closing piece) text ≡ read_of (passage piece text outermost)
unfolding closing
closing_reads piece text = let p = passage piece text outermost in ap (prefixed []) (emits_all_reads p.found.items p.found.closed p.rest)

with_items_twice : (items more : List Item) (p : Passage) → with_items items (with_items more p) ≡ with_items (items ++ more) p
with_items_twice items more p = ap (λ items. ended items p.found.closed p.rest) (sym (append_assoc items more p.found.items))

inside : {one later : Depth} → Some one ≡ Some later → one ≡ later
inside e = cc

lowered : (t : Bool) (one later : Depth) → cond t None (Some one) ≡ Some later → one ≡ later
lowered true one later e = cc
lowered false one later e = cc

-- a piece that doesn't close the outermost bracket adds at most one to what is counted
small_on : (a : Nesting) (depth later : Depth) → after_piece a depth ≡ Some later → later.opened + later.lowered ≤ 1 + depth.opened + depth.lowered
small_on Opens depth later e = omega (arith, ap (λ (d : Depth). d.opened) (inside e), ap (λ (d : Depth). d.lowered) (inside e))
small_on Lowers depth later e = omega (arith, ap (λ (d : Depth). d.opened) (inside e), ap (λ (d : Depth). d.lowered) (inside e))
small_on Closes depth later e = let same = lowered (nat_le depth.opened depth.lowered) _ later e in omega (arith, ap (λ (d : Depth). d.opened) same, ap (λ (d : Depth). d.lowered) same)
small_on Stays depth later e = omega (arith, ap (λ (d : Depth). d.opened) (inside e), ap (λ (d : Depth). d.lowered) (inside e))

module _ (piece : ℕ → Pieces Nesting) where
  -- the loop so far
  pub record Nests (start now : Scanner) (depth : Depth) : Type 0 where
    pub items : List Item
    pub so_far : passage (piece (length start.text.now)) start.rest.now outermost ≡ with_items items (passage (piece (length start.text.now)) now.rest.now depth)
    pub grown : Grows scanner_kind start now items
    pub passed : Passed start now
    pub small : depth.opened + depth.lowered + length now.rest.now ≤ length start.rest.now

  module _ (start now next : Scanner) (depth : Depth) (so_far : Nests start now depth) where
    abbrev turn : Read Item ⊥ (Option Nesting)
    turn = computes (piece (length start.text.now)) now.rest.now

    -- a turn, in terms of the loop's start
    turned : (o : Option Nesting) → Builds (λ x. x) now next (Ok o) (piece (length now.text.now))
        → (turn.outcome ≡ Ok (o, next.rest.now)) × (length next.text.now ≡ length start.text.now) × Grows scanner_kind now next turn.items
    turned o builds =
        let same : length now.text.now ≡ length start.text.now = ap (λ (text : Bor (List ℕ)). length text.now) so_far.passed.1 in
        subst (λ len. ((computes (piece len) now.rest.now).outcome ≡ Ok (o, next.rest.now)) × (length next.text.now ≡ len) × Grows scanner_kind now next (computes (piece len) now.rest.now).items) same builds

    all_grown : Grows scanner_kind now next turn.items → Grows scanner_kind start next (so_far.items ++ turn.items)
    all_grown more = more ∙ ap (λ m. fold add m turn.items) so_far.grown ∙ sym (fold-append add (made_by start) so_far.items turn.items)

    -- what follows a turn that gives a piece
    after_turn : (a : Nesting) → turn.outcome ≡ Ok (Some a, next.rest.now) → (o : Option Depth) → after_piece a depth ≡ o
        → passage (piece (length start.text.now)) start.rest.now outermost
        ≡ with_items so_far.items (onward turn.items next.rest.now (passage (piece (length start.text.now)) next.rest.now) o)
    after_turn a e o is = so_far.so_far ∙ ap (λ (f : Depth → Passage). with_items so_far.items (f depth)) (passage_next (piece (length start.text.now)) now.rest.now _ e)
        ∙ ap (λ o. with_items so_far.items (onward turn.items next.rest.now (passage (piece (length start.text.now)) next.rest.now) o)) is

    pub nests_smaller : (a : Nesting) → Builds (λ x. x) now next (Ok (Some a)) (piece (length now.text.now)) → length next.rest.now < length now.rest.now
    nests_smaller a builds = omega (arith, (leaves (piece (length now.text.now))).least now.rest.now (Some a) next.rest.now builds.0)

    pub nests_on : (a : Nesting) (later : Depth) → Builds (λ x. x) now next (Ok (Some a)) (piece (length now.text.now)) → Passed now next
        → after_piece a depth ≡ Some later → Nests start next later
    nests_on a later builds passed is =
        let t = turned (Some a) builds in
        record {
          items = so_far.items ++ turn.items;
          so_far = after_turn a t.0 (Some later) is ∙ with_items_twice so_far.items turn.items (passage (piece (length start.text.now)) next.rest.now later);
          grown = all_grown t.2;
          passed = passed_on start now next so_far.passed passed;
          small = let less = nests_smaller a builds in let one = small_on a depth later is in let before = so_far.small in omega arith;
        }

    -- what was read when the bracket is closed, or at the text's end
    closes : (closed : Bool) → passage (piece (length start.text.now)) start.rest.now outermost ≡ ended (so_far.items ++ turn.items) closed next.rest.now
        → length next.text.now ≡ length start.text.now → Grows scanner_kind now next turn.items → Builds (λ x. x) start next (Ok closed) (closing (piece (length start.text.now)))
    closes closed is len grown =
        subst (λ (r : Read Item ⊥ Bool). (r.outcome ≡ Ok (closed, next.rest.now)) × (length next.text.now ≡ length start.text.now) × Grows scanner_kind start next r.items)
        (ap read_of (sym is) ∙ sym (closing_reads (piece (length start.text.now)) start.rest.now)) (refl, len, all_grown grown)

    pub nests_closed : (a : Nesting) → Builds (λ x. x) now next (Ok (Some a)) (piece (length now.text.now)) → after_piece a depth ≡ None
        → Builds (λ x. x) start next (Ok true) (closing (piece (length start.text.now)))
    nests_closed a builds is = let t = turned (Some a) builds in closes true (after_turn a t.0 None is) t.1 t.2

    pub nests_ended : Builds (λ (x : Option Nesting). x) now next (Ok None) (piece (length now.text.now)) → Builds (λ x. x) start next (Ok false) (closing (piece (length start.text.now)))
    nests_ended builds =
        let t = turned None builds in
        closes false (so_far.so_far ∙ ap (λ (f : Depth → Passage). with_items so_far.items (f depth)) (passage_next (piece (length start.text.now)) now.rest.now _ t.0)) t.1 t.2
