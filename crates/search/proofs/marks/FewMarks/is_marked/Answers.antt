use Rattle.std.proofs.Common.{◌∙◌, sym, subst, false, ◌≤◌, ◌≡◌, ℕ, nat_lt, arith}
use Rattle.std.proofs.lemmas.Bool.Decides.{nat_tests}
use Rattle.std.proofs.lemmas.List.{get_or_past}
use Rattle.search.specs.Inner.Marks.{bits_at}
use Rattle.search.proofs.Keys.{bit_at, bits_length}
use Rattle.search.proofs.marks.FewMarks.is_marked.Goals as goal

pub returns-then-number-self : goal.returns-then-number-self
returns-then-number-self c =
    let few = c.args.self.now in
    c.contains.ensures ∙ sym (bit_at few.bound few.numbers c.args.number c.if-number-self.true)

no : (b n : ℕ) → b ≤ n → nat_lt n b ≡ false
no b n le = grind (arith, nat_tests)

pub returns-else-number-self : goal.returns-else-number-self
returns-else-number-self c =
    let few = c.args.self.now in
    no few.bound c.args.number c.if-number-self.false ∙ sym (get_or_past (bits_at few.bound few.numbers) c.args.number false
    (subst (λ n. n ≤ c.args.number) (sym (bits_length few.bound few.numbers)) c.if-number-self.false))
