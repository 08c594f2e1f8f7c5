use Rattle.std.proofs.Common.{◌≡◌, ℕ, ◌+◌, ◌-◌, ◌==◌, ◌&&◌, nat_lt, if◌then◌else◌, ◌++◌, length, take, drop, sym, ap, subst, ◌∙◌, arith, length-take}
use lib.Seq.{take-add, take-take}
use Rattle.std.proofs.lemmas.Bool.Decides.{nat_tests}
use Rattle.std.specs.Io.KnownBytes.{Appends}
use Rattle.std.proofs.KnownBytes.{Appends-trans}
use Rattle.cfgsink.proofs.sink.write_whole.Goals as goal

-- a write that accepts some bytes counts no fault
no_fault : (n handed before after : ℕ) → (n ≡ 0 → ⊥) → after ≡ before + (if n == 0 && nat_lt 0 handed then 1 else 0) → after ≡ before
no_fault n handed before after some counts = grind (arith, nat_tests)

pub loop-taken-preserved : goal.loop-taken-preserved
loop-taken-preserved g c =
    let done = c.loop-taken.taken in
    let n = c.in_ok-count.count in
    let xs = c.args.bytes.now in
    let before = c.loop-taken.invariant in
    let fits = c.in_ok-count.ensures.bound in
    let most = length-take (length xs - done) (drop done xs) in
    let joined = ap (λ l. take done xs ++ l) (take-take n (length xs - done) (drop done xs) (omega arith)) ∙ sym (take-add done n xs) in
    record {
      within = omega arith;
      appended = subst (Appends _ _) joined (Appends-trans _ _ _ _ _ before.appended c.in_ok-count.ensures.bytes);
      faultless = no_fault n (length (take (length xs - done) (drop done xs))) _ _ c.if-count-eq0.false c.in_ok-count.ensures.faults ∙ before.faultless;
    }
