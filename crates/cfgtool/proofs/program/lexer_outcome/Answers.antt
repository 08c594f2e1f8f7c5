use Rattle.std.proofs.Common.{ℕ, List, Ok, Err, refl, subst, ◌∙◌}
use Rattle.cfgtool.specs.Endings.{Reported, ending_in}
use Rattle.cfgtool.specs.Report.{ReportsLexer}
use Rattle.cfgtool.specs.Run.{EndsReported, WithText}
use Rattle.cfgtool.proofs.Handled.{ended_so, ended_with, is_text, not_text, read_both}
use Rattle.cfgtool.proofs.program.lexer_outcome.Goals as goal

pub returns-in_err-text-clause-ends : goal.returns-in_err-text-clause-ends
returns-in_err-text-clause-ends g c =
    let kind = c.in-Some.kind in
    let old = g.O.Sink.written c.args.out.now in
    let new = g.O.Sink.written c.args.out.now in
    let bytes = c.in_ok-bytes.bytes in
    let list = c.in_ok-list.list in
    let ending = ending_in c.from_residual-in_err-text.result in
    let reports = EndsReported (ReportsLexer kind bytes.items list.items) old new ending in
    let refused = c.in_err-text.ensures.err in
    read_both g.S.Source.fetches kind c.args.file.now c.args.names.now c.args.source.now c.fetch.new.source c.fetch-2.new.source old new ending c.args.kind.now c.in-Some.ensures bytes list c.in_ok-bytes.ensures c.in_ok-list.ensures
    (not_text bytes c.deref.result.now c.deref.ensures.value ending c.args.file.now (WithText old new ending c.args.names.now list.items reports) old refused.1
    (ended_so c.from_residual-in_err-text.result c.in_err-text.field-0.0 c.from_residual-in_err-text.ensures.1 ∙ refused.0))

pub returns-in_err-list-2-clause-ends : goal.returns-in_err-list-2-clause-ends
returns-in_err-list-2-clause-ends g c =
    let kind = c.in-Some.kind in
    let old = g.O.Sink.written c.args.out.now in
    let new = g.O.Sink.written c.args.out.now in
    let bytes = c.in_ok-bytes.bytes in
    let list = c.in_ok-list.list in
    let ending = ending_in c.from_residual-in_err-list-2.result in
    let reports = EndsReported (ReportsLexer kind bytes.items list.items) old new ending in
    let refused = c.in_err-list-2.ensures.err in
    read_both g.S.Source.fetches kind c.args.file.now c.args.names.now c.args.source.now c.fetch.new.source c.fetch-2.new.source old new ending c.args.kind.now c.in-Some.ensures bytes list c.in_ok-bytes.ensures c.in_ok-list.ensures
    (is_text bytes c.deref.result.now c.deref.ensures.value ending c.args.file.now (WithText old new ending c.args.names.now list.items reports) old new c.in_ok-text.ensures.ok.1
    (not_text list c.deref-2.result.now c.deref-2.ensures.value ending c.args.names.now reports old refused.1
    (ended_so c.from_residual-in_err-list-2.result c.in_err-list-2.field-0.0 c.from_residual-in_err-list-2.ensures.1 ∙ refused.0)))

pub returns-in_err-write_requested-clause-ends : goal.returns-in_err-write_requested-clause-ends
returns-in_err-write_requested-clause-ends g c =
    let kind = c.in-Some.kind in
    let old = g.O.Sink.written c.args.out.now in
    let new = g.O.Sink.written c.write_requested.new.out in
    let bytes = c.in_ok-bytes.bytes in
    let list = c.in_ok-list.list in
    let ending = ending_in c.from_residual-in_err-write_requested.result in
    let reports = EndsReported (ReportsLexer kind bytes.items list.items) old new ending in
    let fault = c.in_err-write_requested.field-0.0 in
    read_both g.S.Source.fetches kind c.args.file.now c.args.names.now c.args.source.now c.fetch.new.source c.fetch-2.new.source old new ending c.args.kind.now c.in-Some.ensures bytes list c.in_ok-bytes.ensures c.in_ok-list.ensures
    (is_text bytes c.deref.result.now c.deref.ensures.value ending c.args.file.now (WithText old new ending c.args.names.now list.items reports) old new c.in_ok-text.ensures.ok.1
    (is_text list c.deref-2.result.now c.deref-2.ensures.value ending c.args.names.now reports old new c.in_ok-list-2.ensures.ok.1
    (subst (λ (t : List ℕ). EndsReported (ReportsLexer kind t list.items) old new ending) (c.in_ok-text.ensures.ok.0 ∙ c.deref.ensures.value)
    (subst (λ (l : List ℕ). EndsReported (ReportsLexer kind c.in_ok-text.text.now l) old new ending) (c.in_ok-list-2.ensures.ok.0 ∙ c.deref-2.ensures.value)
    (Err fault, ended_with c.from_residual-in_err-write_requested.result fault c.from_residual-in_err-write_requested.ensures.1, c.in_err-write_requested.ensures.reported)))))

pub returns-clause-ends : goal.returns-clause-ends
returns-clause-ends g c =
    let kind = c.in-Some.kind in
    let old = g.O.Sink.written c.args.out.now in
    let new = g.O.Sink.written c.write_requested.new.out in
    let bytes = c.in_ok-bytes.bytes in
    let list = c.in_ok-list.list in
    let ending = Reported c.in_ok-write_requested.field-0 in
    let reports = EndsReported (ReportsLexer kind bytes.items list.items) old new ending in
    read_both g.S.Source.fetches kind c.args.file.now c.args.names.now c.args.source.now c.fetch.new.source c.fetch-2.new.source old new ending c.args.kind.now c.in-Some.ensures bytes list c.in_ok-bytes.ensures c.in_ok-list.ensures
    (is_text bytes c.deref.result.now c.deref.ensures.value ending c.args.file.now (WithText old new ending c.args.names.now list.items reports) old new c.in_ok-text.ensures.ok.1
    (is_text list c.deref-2.result.now c.deref-2.ensures.value ending c.args.names.now reports old new c.in_ok-list-2.ensures.ok.1
    (subst (λ (t : List ℕ). EndsReported (ReportsLexer kind t list.items) old new ending) (c.in_ok-text.ensures.ok.0 ∙ c.deref.ensures.value)
    (subst (λ (l : List ℕ). EndsReported (ReportsLexer kind c.in_ok-text.text.now l) old new ending) (c.in_ok-list-2.ensures.ok.0 ∙ c.deref-2.ensures.value)
    (Ok c.in_ok-write_requested.field-0, refl, c.in_ok-write_requested.ensures.reported)))))
