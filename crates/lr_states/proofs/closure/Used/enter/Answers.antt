use Rattle.std.proofs.Common.{◌≡◌, true, subst, sym, ◌∙◌}
use Rattle.std.proofs.lemmas.Result.{IfOk-weaker}
use Rattle.search.proofs.Reaching.{reaches_as, reaches_known}
use Rattle.lr_states.specs.Inner.Closure.{IsOn}
use Rattle.lr_states.proofs.Bits.{bit_read}
use Rattle.lr_states.proofs.Entered.{adds_none, adds_one}
use Rattle.lr_states.proofs.closure.Used.enter.Goals as goal

pub returns-then-not-unwrap_or-clause-reaches : goal.returns-then-not-unwrap_or-clause-reaches
returns-then-not-unwrap_or-clause-reaches c =
    let read = bit_read c.args.self.now.bits c.args.production c.get.result c.unwrap_or.result c.get.ensures c.unwrap_or.ensures in
    reaches_known _ c.args.search.now (λ n h. let on : c.unwrap_or.result ≡ true = read ∙ h.used in let off = c.if-not-unwrap_or.true in cc)

pub returns-then-not-unwrap_or-clause-adds : goal.returns-then-not-unwrap_or-clause-adds
returns-then-not-unwrap_or-clause-adds c =
    let read = bit_read c.args.self.now.bits c.args.production c.get.result c.unwrap_or.result c.get.ensures c.unwrap_or.ensures in
    adds_none _ c.args.entered.now (λ n h.
    let on : c.unwrap_or.result ≡ true = read ∙ subst (IsOn c.args.self.now.bits) h.0 h.1 in let off = c.if-not-unwrap_or.true in cc)

pub returns-clause-reaches : goal.returns-clause-reaches
returns-clause-reaches c =
    let read = bit_read c.args.self.now.bits c.args.production c.get.result c.unwrap_or.result c.get.ensures c.unwrap_or.ensures in
    let off = c.if-not-unwrap_or.false in
    let on : c.unwrap_or.result ≡ true = cc in
    IfOk-weaker c.reach_next.result _ _ (λ _ w. reaches_as _ _ c.args.search.now c.reach_next.new.search
    (λ n h. record { used = sym read ∙ on; begins = h }) (λ n h. h.begins) w) c.reach_next.ensures

pub returns-clause-adds : goal.returns-clause-adds
returns-clause-adds c =
    let bits = c.args.self.now.bits in
    let production = c.args.production in
    let read = bit_read bits production c.get.result c.unwrap_or.result c.get.ensures c.unwrap_or.ensures in
    let off = c.if-not-unwrap_or.false in
    let on : c.unwrap_or.result ≡ true = cc in
    IfOk-weaker c.reach_next.result _ _ (λ _ w. adds_one (IsOn bits) c.args.entered.now c.insert.new.self production (sym read ∙ on) c.in_ok-insert.ensures.updates.0)
    c.reach_next.ensures
