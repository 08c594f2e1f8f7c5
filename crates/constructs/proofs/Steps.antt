-- Loops that read: reading the rest, from what was made so far, leads to the same end.
use Rattle.std.proofs.Common.{◌≡◌, ℕ, ◌<◌, ◌≤◌, ◌-◌, Bool, true, false, cond, List, [], ◌∷◌, ◌++◌, length, fold, Option, Some, None, Result, Ok, Err, refl, sym, ◌∙◌, ap, subst, arith, append-nil, append_assoc}
use Rattle.std.specs.Prelude.{IsErrAnd}
use Rattle.std.proofs.lemmas.List.Sums.{fold-append}
use Rattle.std.proofs.lemmas.Result.{err_from_is_err_and}
use Rattle.constructs.specs.Leaves.{Gives, ValueOf, Leaves, Less, One, OneOrEnd}
use Rattle.constructs.specs.Read.{Read, gives, follow_outcome}
use Rattle.constructs.specs.Construct.{Construct, then, again, many, repeat, while_test, computes}
use Rattle.constructs.specs.Steps.{ReaderKind, Grows, Stops, Returns, Fails, Builds}
use Rattle.constructs.proofs.Agree.{leaves}
use Rattle.constructs.proofs.Loops.{Prefix, prefix_start, prefix_one, prefix_done, prefix_stopped}

-- items noted one by one
pub noted_after : {A : Type 0} (before items : List A) → fold (λ items item. items ++ item ∷ []) before items ≡ before ++ items
noted_after before [] = sym (append-nil before)
noted_after before (item ∷ items) = noted_after (before ++ item ∷ []) items ∙ append_assoc before (item ∷ []) items

-- the rest after what was passed is no longer, so its offset isn't smaller, if what no step changes is the text's length
pub offset_on : {Reader Stop Made Item Fault : Type 0} (R : ReaderKind Reader ℕ Stop Made Item Fault) {l : Leaves} {G : Gives} {X : Type 0}
    (c : Construct Item Fault l G) (view : X → ValueOf G) (now next : Reader) (x : X)
    → Builds R view now next (Ok x) c → R.fixed now - length (R.rest now) ≤ R.fixed next - length (R.rest next)
offset_on R c view now next x builds = omega (arith, (leaves c).least (R.rest now) (view x) (R.rest next) builds.0, builds.1)

module _ {Reader Fixed Stop Made Item Fault : Type 0} (R : ReaderKind Reader Fixed Stop Made Item Fault) where
  -- a turn that is not the last leaves a shorter rest
  pub turn_shorter : {A X : Type 0} (c : Fixed → Construct Item Fault Less (OneOrEnd A)) (view : X → Option A) (now next : Reader) (x : X) (a : A)
      → Builds R view now next (Ok x) (c (R.fixed now)) → view x ≡ Some a → length (R.rest next) < length (R.rest now)
  turn_shorter c view now next x a builds is =
      omega (arith, (leaves (c (R.fixed now))).least (R.rest now) (Some a) (R.rest next) (builds.0 ∙ ap (λ a. Ok (a, R.rest next)) is))

  -- if f makes another value of what was read
  module _ {A B : Type 0} (f : A → B) (old new : Reader) (r : Read Item Fault A) where
    pub stops_then : (o : Option Fault) → Stops R old new o r → Stops R old new o (follow_outcome r.items r.outcome (λ a. gives (f a)))
    stops_then None stops = tt
    stops_then (Some fault) stops = subst (λ o. Stops R old new (Some fault) (follow_outcome r.items o (λ a. gives (f a)))) (sym stops.0) (refl, stops.1)

    pub returns_then : {X : Type 0} (view : X → A) (result : Result X Stop) → Returns R view old new result r
        → Returns R (λ x. f (view x)) old new result (follow_outcome r.items r.outcome (λ a. gives (f a)))
    returns_then view (Ok x) returns =
        subst (λ o. Returns R (λ x. f (view x)) old new (Ok x) (follow_outcome r.items o (λ a. gives (f a)))) (sym returns.0)
        (refl, returns.1, returns.2 ∙ ap (λ items. fold R.add (R.made old) items) (sym (append-nil r.items)))
    returns_then view (Err e) returns = stops_then (R.fault e) returns

  -- the turns of a loop with a test
  module _ {A : Type 0} (test : List ℕ → Bool) (d : Fixed → Construct Item Fault Less (One A)) (now : Reader) where
    abbrev turned : Bool → Read Item Fault (Option A)
    turned here = cond here (computes (then (d (R.fixed now)) again) (R.rest now)) (gives None (R.rest now))

    pub while_builds : {X : Type 0} (view : X → A) (next : Reader) (result : Result X Stop) → test (R.rest now) ≡ true
        → Builds R view now next result (d (R.fixed now)) → Builds R (λ x. Some (view x)) now next result (while_test test (d (R.fixed now)))
    unfolding while_test
    while_builds view next result here builds =
        subst (λ here. Returns R (λ x. Some (view x)) now next result (turned here)) (sym here) (returns_then Some now next _ view result builds)

    pub while_done : test (R.rest now) ≡ false → Builds R (λ (x : Unit {0}). None) now now (Ok tt) (while_test test (d (R.fixed now)))
    unfolding while_test
    while_done here = subst (λ here. Returns R (λ (x : Unit {0}). None) now now (Ok tt) (turned here)) (sym here) (refl, refl, refl)

  -- a loop over turns, from start to now, and the values that it gathered
  pub record Gathers {A : Type 0} (c : Fixed → Construct Item Fault Less (OneOrEnd A)) (start now : Reader) : Type 0 where
    pub values : List A
    pub fixed : R.fixed now ≡ R.fixed start
    pub items : List Item
    pub prefix : Prefix (computes (c (R.fixed start))) (R.rest start) (R.rest now) items values
    pub grown : Grows R start now items

module _ {Reader Fixed Stop Made Item Fault : Type 0} {R : ReaderKind Reader Fixed Stop Made Item Fault} {A : Type 0} {c : Fixed → Construct Item Fault Less (OneOrEnd A)} where
  unfoldable pub gathers_start : (start : Reader) → Gathers R c start start
  gathers_start start = record {
    values = [];
    fixed = refl;
    items = [];
    prefix = prefix_start (computes (c (R.fixed start))) (R.rest start);
    grown = refl;
  }

  -- the loop so far, and one more turn
  module _ {start now : Reader} (so_far : Gathers R c start now) (next : Reader) where
    -- all items so far
    abbrev read : List Item
    read = so_far.items ++ (computes (c (R.fixed start)) (R.rest now)).items

    pub grown : Grows R now next (computes (c (R.fixed start)) (R.rest now)).items → Grows R start next read
    grown more = more ∙ ap (λ s. fold R.add s (computes (c (R.fixed start)) (R.rest now)).items) so_far.grown
        ∙ sym (fold-append R.add (R.made start) so_far.items (computes (c (R.fixed start)) (R.rest now)).items)

    module _ {X : Type 0} (view : X → Option A) (x : X) (builds : Builds R view now next (Ok x) (c (R.fixed now))) where
      unfoldable pub gathers_on : (a : A) → view x ≡ Some a → Gathers R c start next
      gathers_on a is =
          let turn = rw so_far.fixed at builds in
          record {
            values = so_far.values ++ a ∷ [];
            fixed = turn.1;
            items = read;
            prefix = prefix_one (leaves (c (R.fixed start))) so_far.prefix a (R.rest next) (turn.0 ∙ ap (λ a. Ok (a, R.rest next)) is);
            grown = grown turn.2;
          }

      -- the end of a loop that keeps the values, and of one that doesn't
      pub many_done : {Y : Type 0} (list : Y → List A) (y : Y) → so_far.values ≡ list y → view x ≡ None → Builds R list start next (Ok y) (many (c (R.fixed start)))
      many_done list y same is =
          let turn = rw so_far.fixed at builds in
          subst (Returns R list start next (Ok y)) (sym (prefix_done (leaves (c (R.fixed start))) so_far.prefix (R.rest next) (turn.0 ∙ ap (λ a. Ok (a, R.rest next)) is)))
          (ap (λ values. Ok (values, R.rest next)) same, turn.1, grown turn.2)

      pub repeat_done : view x ≡ None → Builds R (λ x. x) start next (Ok tt) (repeat (c (R.fixed start)))
      unfolding repeat
      repeat_done is = returns_then R (λ values. tt) start next _ (λ (x : Unit {0}). so_far.values) (Ok tt) (many_done (λ (x : Unit {0}). so_far.values) tt refl is)

    -- if a turn fails
    pub many_stops : (o : Option Fault) → Stops R now next o (computes (c (R.fixed now)) (R.rest now)) → Stops R start next o (computes (many (c (R.fixed start))) (R.rest start))
    many_stops None stops = tt
    many_stops (Some fault) stops =
        let turn = rw so_far.fixed at stops in
        subst (Stops R start next (Some fault)) (sym (prefix_stopped (leaves (c (R.fixed start))) so_far.prefix fault turn.0)) (refl, grown turn.1)

    -- as the code returns it
    pub repeat_refused : (result : Result (Unit {0}) Stop) (e : Stop) → IsErrAnd result (λ fault. fault ≡ e) → Fails R now next e (c (R.fixed now))
        → Builds R (λ x. x) start next result (repeat (c (R.fixed start)))
    unfolding repeat
    repeat_refused result e refused fails =
        let p = err_from_is_err_and result refused in
        rw (p.1, p.2) (stops_then R (λ values. tt) start next _ (R.fault e) (many_stops (R.fault e) fails))
