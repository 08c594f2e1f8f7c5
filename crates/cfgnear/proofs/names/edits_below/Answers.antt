use Rattle.std.proofs.Common.{◌≡◌, ◌≤◌, false, not, nat_eq, nat_lt, refl, sym, ap, ◌∙◌, arith}
use Rattle.std.proofs.lemmas.Bool.{and_left, and_right, le-ltb}
use Rattle.std.specs.Str.{bytes_eq, chars}
use Rattle.cfgnear.specs.Nearest.{distance, is_closer}
use Rattle.cfgnear.proofs.Lengths.{lengths_apart}
use Rattle.cfgnear.proofs.names.edits_below.Goals as goal
use Rattle.cfgnear.proofs.names.edits_below.Goals.{then-eq-via-then-eq, then-eq-via-else-eq+then-abs_diff-bound}

pub returns-then-eq : goal.returns-then-eq
returns-then-eq c =
    let name = c.args.name.now in
    let other = c.args.other.now in
    let bound = c.args.bound in
    elim c.then-eq.branch [
      | then-eq-via-then-eq w ↦
          let beyond : is_closer name other bound ≡ false =
          and_left (not (bytes_eq name other)) (nat_lt (distance name other) bound) (ap not (sym c.eq.ensures ∙ w.if-eq.true)) in
          rw beyond refl
      | then-eq-via-else-eq+then-abs_diff-bound w ↦
          let apart = lengths_apart nat_eq (chars name) (chars other) in
          let gap : bound ≤ distance name other = omega (arith, apart, w.abs_diff.ensures) in
          let beyond : is_closer name other bound ≡ false =
          and_right (not (bytes_eq name other)) (nat_lt (distance name other) bound) (le-ltb (distance name other) bound gap) in
          rw beyond refl
    ]
