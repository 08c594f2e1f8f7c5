-- What `{}` prints of why merging stopped, in bytes: None if the text of what it shows is unspecified.
use Rattle.std.specs.Prelude.{ℕ, List, Option, Some, None, codes}
use Rattle.std.specs.Fmt.{◌++?◌}
use Rattle.cfgmarks.specs.declared.markmap.fault.MergeError.{MergeError}
use Rattle.cfgmarks.specs.declared.markmap.fault.MergeError.TheVariants.{Exclusivity}
use Rattle.cfgmarks.specs.declared.markmap.fault.MergeFault.{MergeFault}
use Rattle.cfgmarks.specs.declared.markmap.fault.MergeFault.TheVariants.{Conflict, Convert, OutOfMemory}

module _ {K V : Type 0} (key_text : K → Option (List ℕ)) where
  -- the text of a conflict
  abbrev pub conflict_text : MergeError K V → Option (List ℕ)
  conflict_text (Exclusivity key value) = Some (codes "Merge behavior forbids overriding key: ") ++? key_text key

-- the text of a fault
abbrev pub fault_text : {K V E : Type 0} → (K → Option (List ℕ)) → (E → Option (List ℕ)) → MergeFault K V E → Option (List ℕ)
fault_text key_text refusal_text (Conflict conflict) = conflict_text key_text conflict
fault_text key_text refusal_text (Convert key refusal) = Some (codes "the value at the key ") ++? key_text key ++? Some (codes " isn't converted: ") ++? refusal_text refusal
fault_text key_text refusal_text OutOfMemory = Some (codes "out of memory")

-- the text of a fault with formatting options, such as a width: None if a key is part of it
abbrev pub styled_fault_text : {K V E : Type 0} → MergeFault K V E → Option (List ℕ)
styled_fault_text OutOfMemory = Some (codes "out of memory")
styled_fault_text _ = None
