use Rattle.std.proofs.Common.{◌≡◌, ◌+◌, ◌∷◌, [], List, Option, Some, None, Bor, map, not, option_map, take, get_or, refl, sym, ap, ◌∙◌, subst, ℕ}
use Rattle.std.proofs.lemmas.List.{map-append, take_all, take_more}
use Rattle.std.specs.Str.{bytes_eq}
use Rattle.cfgnear.specs.Nearest.{distance, most_edits}
use Rattle.cfgnear.proofs.FirstNearest.{IsFound, found_is, more_left, more_taken, none_is}
use Rattle.cfgnear.proofs.names.nearest.Goals as goal
use Rattle.cfgnear.proofs.names.nearest.Goals.{After-loop-other, in-Some, in_default}

-- what is found among all names
whole : (c : After-loop-other) → IsFound (λ other. not (bytes_eq c.args.name.now other)) (distance c.args.name.now) (most_edits c.args.name.now + 1)
    (map (λ other. other.now) c.args.names.now) (option_map (λ other. other.now) c.loop-other.found) c.loop-other.bound
whole c =
    subst (λ (all : List (Bor (List ℕ))). IsFound (λ other. not (bytes_eq c.args.name.now other)) (distance c.args.name.now) (most_edits c.args.name.now + 1)
    (map (λ other. other.now) all) (option_map (λ other. other.now) c.loop-other.found) c.loop-other.bound)
    (take_all c.loop-other.other-index c.args.names.now c.loop-other-test.false) c.loop-other.invariant

none_itself : (found : Option (Bor (List ℕ))) → option_map (λ other. other.now) found ≡ None → found ≡ None
none_itself None is = refl
none_itself (Some other) is = cc

pub loop-other-preserved : goal.loop-other-preserved
loop-other-preserved c =
    let name = c.args.name.now in
    let names = c.args.names.now in
    let i = c.loop-other.other-index in
    let none : Bor (List ℕ) = record { ref_ptr = (0, 0); now = [] } in
    let before = map (λ other. other.now) (take i names) in
    let found = option_map (λ other. other.now) c.loop-other.found in
    let next = get_or names i none in
    let passed = ap (map (λ other. other.now)) (take_more names i none c.loop-other-test.true) ∙ map-append (λ other. other.now) (take i names) (next ∷ []) in
    elim c.match-branch-2.branch [
      | in-Some w ↦ rw (passed, w.found-is, w.bound-is)
          (more_taken (λ other. not (bytes_eq name other)) (distance name) (most_edits name + 1) before found c.loop-other.bound next.now w.in-Some.edits
          c.loop-other.invariant (sym w.in-Some.is ∙ c.in_ok-edits.ensures))
      | in_default w ↦ rw (passed, w.found-is, w.bound-is)
          (more_left (λ other. not (bytes_eq name other)) (distance name) (most_edits name + 1) before found c.loop-other.bound next.now
          c.loop-other.invariant (sym w.in_default.is ∙ c.in_ok-edits.ensures))
    ]

pub returns-clause-nearest : goal.returns-clause-nearest
returns-clause-nearest c =
    let name = c.args.name.now in
    sym (found_is (λ other. not (bytes_eq name other)) (distance name) (most_edits name + 1) (map (λ other. other.now) c.args.names.now)
    (option_map (λ other. other.now) c.loop-other.found) c.loop-other.bound (whole c))

pub returns-clause-none : goal.returns-clause-none
returns-clause-none c =
    let name = c.args.name.now in
    let both = none_is (λ other. not (bytes_eq name other)) (distance name) (most_edits name + 1) (map (λ other. other.now) c.args.names.now)
    (option_map (λ other. other.now) c.loop-other.found) c.loop-other.bound (whole c) in
    (λ none. both.0 (ap (option_map (λ other. other.now)) none), λ none. none_itself c.loop-other.found (both.1 none))
