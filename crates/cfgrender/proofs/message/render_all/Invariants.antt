use Rattle.std.proofs.Common.{◌≡◌, IfSome, take, string_bytes}
use Rattle.cfgrender.specs.Render.{RendersEach}
use Rattle.cfgrender.proofs.message.render_all.Given as goal

-- what is printed of the errors so far
abbrev pub invariant-loop-error : goal.invariant-loop-error
invariant-loop-error g l =
    RendersEach (λ error message. IfSome (g.E.Display.output error) (λ printed. message ≡ printed)) g.E.Spanned.spans g.E.Spanned.spanskind
    l.name l.text (take l.error-index l.errors) (string_bytes l.out)
