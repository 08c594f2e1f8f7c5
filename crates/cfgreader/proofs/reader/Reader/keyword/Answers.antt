use Rattle.std.proofs.Common.{refl, ap, ◌∙◌}
use Rattle.constructs.specs.Construct.{computes, ends}
use Rattle.cfgreader.specs.Keywords.{one_of}
use Rattle.cfgreader.specs.Declarations.{declaration, own_declarations}
use Rattle.cfgreader.proofs.Declared.{reads, own_found}
use Rattle.cfgreader.proofs.reader.Reader.keyword.Goals as goal

pub returns-in-Some : goal.returns-in-Some
unfolding declaration
returns-in-Some c =
    let here = c.in-Some.ensures in (reads c.args.self.now.len (one_of (own_declarations c.args.self.now.len c.args.kind) ends) _ refl _ _ here.0, here.1, here.2)

pub returns-in-Original : goal.returns-in-Original
unfolding declaration
returns-in-Original c =
    let none = c.in_default.ensures in
    own_found c.args.kind c.args.self.now c.first_of.new.self c.first_of-in-Original.new.self _ _ refl (ap (own_declarations c.args.self.now.len) c.in-Original.is)
    (reads c.args.self.now.len (one_of (own_declarations c.args.self.now.len c.args.kind) ends) _ refl _ _ none.0) none.1 c.first_of-in-Original.ensures

pub returns-in-Grmtools : goal.returns-in-Grmtools
unfolding declaration
returns-in-Grmtools c =
    let none = c.in_default.ensures in
    let here = reads c.args.self.now.len (one_of (own_declarations c.args.self.now.len c.args.kind) ends) _ refl _ _ none.0 in
    (here ∙ ap (λ kind. computes (one_of (own_declarations c.args.self.now.len kind) ends) c.args.self.now.rest.now) c.in-Grmtools.is, none.1)

pub returns-in-Eco : goal.returns-in-Eco
unfolding declaration
returns-in-Eco c =
    let none = c.in_default.ensures in
    own_found c.args.kind c.args.self.now c.first_of.new.self c.first_of-in-Eco.new.self _ _ refl (ap (own_declarations c.args.self.now.len) c.in-Eco.is)
    (reads c.args.self.now.len (one_of (own_declarations c.args.self.now.len c.args.kind) ends) _ refl _ _ none.0) none.1 c.first_of-in-Eco.ensures
