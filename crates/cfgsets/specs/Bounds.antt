-- The number of bits that are on is at most the number of bits.
use Rattle.std.proofs.Common.{◌≡◌, ℕ, ◌+◌, ◌*◌, ◌≤◌, subst, sym, ap, ◌∙◌, get_or, arith}
use Rattle.std.proofs.Math.Nat.{add-le-add, mul-add, mul-one}
use Rattle.std.proofs.lemmas.List.Sums.{sum_by-le, count_by-le-length}
use Rattle.derivation.specs.Grammar.{Grammar}
use Rattle.cfgsets.specs.Table.{Table, IsTable, bits_on, count_of}
use Rattle.cfgsets.specs.FirstSets.{FirstSets, AreSoundFirsts, count_firsts}
use Rattle.cfgsets.specs.GrowingFollows.{FollowSets, AreSoundFollows, count_follows}

count_of-le : (rows columns : ℕ) (x : Table) → IsTable rows columns x → count_of x ≤ rows * columns
count_of-le rows columns x is = subst (λ n. count_of x ≤ n * columns) is.height
    (sum_by-le bits_on columns x.rows (λ k d h.
    subst (λ n. bits_on (get_or x.rows k d) ≤ n) (is.all_wide k d h) (count_by-le-length (λ b. b) (get_or x.rows k d))))

pub firsts_bounded : (g : Grammar) (x : FirstSets) → AreSoundFirsts g x → count_firsts x ≤ g.rules * (g.tokens + 1)
firsts_bounded g x h = subst (λ n. count_firsts x ≤ n)
    (sym (mul-add g.rules g.tokens 1 ∙ ap (λ n. g.rules * g.tokens + n) (mul-one g.rules)))
    (add-le-add (count_of-le g.rules g.tokens x.firsts h.fits.table)
    (subst (λ n. bits_on x.nullable ≤ n) h.fits.nullable (count_by-le-length (λ b. b) x.nullable)))

pub follows_bounded : (g : Grammar) (x : FollowSets) → AreSoundFollows g x → count_follows x ≤ g.rules * (g.tokens + 1)
follows_bounded g x h =
    let product : g.rules * (g.tokens + 1) ≡ g.rules * g.tokens + g.rules =
    mul-add g.rules g.tokens 1 ∙ ap (λ n. g.rules * g.tokens + n) (mul-one g.rules) in
    omega (arith, product, count_of-le g.rules g.tokens x.follows h.fits)
