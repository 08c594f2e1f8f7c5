use Rattle.cfgast.proofs.Trees.{read_tree, rule_added_tree, production_added_tree, programs_set_tree}
use Rattle.cfgast.proofs.writing.written_is_tree.Goals as goal

pub returns-clause-read : goal.returns-clause-read
returns-clause-read c = read_tree

pub returns-clause-rule : goal.returns-clause-rule
returns-clause-rule c = λ s head tree. rule_added_tree s tree head

pub returns-clause-production : goal.returns-clause-production
returns-clause-production c = λ s name production there tree. production_added_tree s tree name production there

pub returns-clause-programs : goal.returns-clause-programs
returns-clause-programs c = λ s text tree. programs_set_tree s tree text
