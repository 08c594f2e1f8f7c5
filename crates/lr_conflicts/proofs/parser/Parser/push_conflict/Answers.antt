use Rattle.std.proofs.Common.{◌≡◌, ◌↔◌, ◌+◌, Contains, cond, arith, length, refl, subst, sym, ◌∙◌}
use Rattle.std.specs.List.Sorted.{IsStrictlyIncreasing}
use Rattle.lr_conflicts.specs.Conflicts.{IsReduced}
use Rattle.lr_conflicts.specs.Inner.Choices.{items_in}
use Rattle.lr_conflicts.proofs.Taken.{shifted_is}
use Rattle.lr_conflicts.proofs.Torn.{byte_is, listed_more, listed_skip, torn_by, torn_many}
use Rattle.lr_conflicts.proofs.parser.Parser.push_conflict.Goals as goal

pub returns-then-len-from-lt2 : goal.returns-then-len-from-lt2
returns-then-len-from-lt2 c =
    let x = c.args.self.now in
    let items = items_in x c.args.state.now.number in
    let shifts = c.is_shifted-shifts.result in
    let shifted = shifted_is x.grammar.now x.levels.now items c.args.turn c.requires.turn shifts c.is_shifted-shifts.ensures in
    let reduced = c.list_reduced.new.reduced.items in
    let byte = byte_is shifts in
    let count : c.len.result + c.from.result ≡ length reduced + cond shifts 1 0 = omega (arith, c.len.ensures, c.from.ensures, c.list_reduced.new.reduced.ok, byte) in
    listed_skip x.grammar.now x.levels.now x.lookaheads.now.automaton c.args.state.now.number c.args.turn.token c.args.conflicts.now.items c.requires.listed (λ torn.
    let many = torn_many x.grammar.now x.levels.now items c.args.turn.token reduced c.in_ok-list_reduced.ensures shifts shifted torn (c.len.result + c.from.result) count in
    omega (arith, many, c.if-len-from-lt2.true))

pub returns : goal.returns
returns c =
    let x = c.args.self.now in
    let items = items_in x c.args.state.now.number in
    let shifts = c.is_shifted-shifts.result in
    let shifted = shifted_is x.grammar.now x.levels.now items c.args.turn c.requires.turn shifts c.is_shifted-shifts.ensures in
    let reduced = c.list_reduced.new.reduced.items in
    let byte = byte_is shifts in
    let count : c.len.result + c.from.result ≡ length reduced + cond shifts 1 0 = omega (arith, c.len.ensures, c.from.ensures, c.list_reduced.new.reduced.ok, byte) in
    let same : c.in_ok-to_vec.field-0.items ≡ reduced = c.in_ok-to_vec.ensures.items_if_clones_equal (λ a b h. h) ∙ c.deref.ensures.value in
    listed_more x.grammar.now x.levels.now x.lookaheads.now.automaton c.args.state.now.number c.args.turn.token c.args.conflicts.now.items c.requires.listed
    (record { state = c.args.state.now.number; token = c.args.turn.token; shifts = shifts; productions = c.in_ok-to_vec.field-0 }) refl refl
    (record {
      entered = c.requires.entered;
      token = c.requires.turn.within;
      torn = torn_by x.grammar.now x.levels.now items c.args.turn.token reduced c.in_ok-list_reduced.ensures shifts shifted (c.len.result + c.from.result) count c.if-len-from-lt2.false;
      shifts = shifted;
      reduced = λ p. subst (λ l. Contains l p ↔ IsReduced x.grammar.now x.levels.now items c.args.turn.token p) (sym same) (c.in_ok-list_reduced.ensures.all p);
      ascending = subst IsStrictlyIncreasing (sym same) c.in_ok-list_reduced.ensures.ascending;
    }) c.push.new.self.items c.in_ok-push.ensures.items
