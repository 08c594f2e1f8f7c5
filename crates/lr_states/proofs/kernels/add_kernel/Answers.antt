use Rattle.std.proofs.Common.{Global, Vec, refl}
use Rattle.std.proofs.lemmas.Slice.Eq.{slice_eq-Decides}
use Rattle.lr_states.specs.declared.Item.{Item}
use Rattle.lr_states.proofs.Added.{items_Decide, key_added, key_numbered, same_keys}
use Rattle.lr_states.proofs.kernels.add_kernel.Goals as goal

pub returns-clause-adds : goal.returns-clause-adds
returns-clause-adds c =
    key_added (λ (v : Vec Item Global). v.items) same_keys c.args.kernels.now.keys c.args.kernel c.args.kernel.items refl c.requires c.insert_full.new.self.keys c.in_ok-number.ensures.keys

pub returns-clause-is : goal.returns-clause-is
returns-clause-is c =
    key_numbered (λ (v : Vec Item Global). v.items) same_keys (λ x y. slice_eq-Decides items_Decide x.items y.items _ refl) c.insert_full.new.self.keys c.args.kernel
    c.in_ok-number.number c.in_ok-number.ensures.stored
