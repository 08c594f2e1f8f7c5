use Rattle.std.proofs.Common.{◌++◌, ◌∙◌, ap, append-nil, sym, arith}
use Rattle.std.proofs.lemmas.List.{get_or_default}
use Rattle.memchr.specs.Find.{is_byte, places}
use Rattle.cfglines.proofs.Found.{found_newline, places-newlines_of}
use Rattle.cfglines.proofs.newlinecache.add_newlines.Goals as goal

pub loop-offset-init : goal.loop-offset-init
loop-offset-init c = (
  sym (append-nil _),
  sym (c.into_iter-offset-iterator.ensures.into_iter_gives ∙ (c.memchr_iter-offset-items.ensures.value
      ∙ (ap (places (is_byte 10)) c.as_bytes.ensures.value ∙ places-newlines_of c.args.text.now))),
)

pub overflow_add-start : goal.overflow_add-start
overflow_add-start c =
    let found = found_newline c.args.text.now c.loop-offset.yielded c.in-Some.offset c.next.new.self
    (c.loop-offset.invariant.1 ∙ ap (λ left. c.loop-offset.yielded ++ left) c.in-Some.ensures.steps) in
    omega arith

pub returns-in-Err-clause-grows : goal.returns-in-Err-clause-grows
returns-in-Err-clause-grows c =
    let found = found_newline c.args.text.now c.loop-offset.yielded c.in-Some.offset c.next.new.self
    (c.loop-offset.invariant.1 ∙ ap (λ left. c.loop-offset.yielded ++ left) c.in-Some.ensures.steps) in
    (c.in-Some.offset, found.0, get_or_default _ _ _ 0 found.0 ∙ found.1)
