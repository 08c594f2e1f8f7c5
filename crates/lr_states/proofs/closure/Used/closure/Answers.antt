use Rattle.std.proofs.Common.{◌≡◌, ◌++◌, Global, Vec, ap, map, ◌∙◌}
use Rattle.cfgrammar.specs.Numbered.{core}
use Rattle.lr_states.specs.declared.Item.{Item}
use Rattle.lr_states.specs.Viable.{IsUsed, item_at}
use Rattle.lr_states.proofs.Entered.{closed_entered, closed_kernel}
use Rattle.lr_states.proofs.closure.Used.closure.Goals as goal
use Rattle.lr_states.proofs.closure.Used.closure.Goals.{then-has_seed+in_ok-entered+in_ok-push_unread, else-has_seed}

pub returns : goal.returns
returns c =
    let g = core c.args.self.now.grammar.now in
    let used = IsUsed g in
    let kernel = c.args.kernel.now in
    let items = c.if-has_seed.items.items in
    let same : c.in_ok-items.items.items ≡ kernel = c.in_ok-items.ensures.items_if_clones_equal (λ x y h. h) in
    elim c.if-has_seed.branch [
      | then-has_seed+in_ok-entered+in_ok-push_unread w ↦
          closed_entered g used kernel items w.in_ok-entered.entered w.in_ok-push_unread.ensures.ascending
          (ap (λ (v : Vec Item Global). v.items) w.items-is ∙ w.in_ok-push_unread.ensures.items ∙ ap (λ l. l ++ map (λ p. item_at p 0) w.in_ok-entered.entered.keys) same)
          w.in_ok-entered.ensures
      | else-has_seed w ↦
          closed_kernel g used kernel items (ap (λ (v : Vec Item Global). v.items) w.items-is ∙ same) (c.has_seed.ensures w.if-has_seed.false)
    ]
