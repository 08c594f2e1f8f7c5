use Rattle.std.proofs.Common.{◌+◌, ◌*◌, length}
use Rattle.cfgsection.proofs.SectionElements.{InElements}
use Rattle.cfgsection.proofs.section.reader.Reader.+setting.Given as goal

abbrev pub decreases-bracketed : goal.decreases-bracketed
decreases-bracketed l = 6 * l.room + 1

abbrev pub decreases-bare_setting : goal.decreases-bare_setting
decreases-bare_setting l = 6 * l.room + 2

abbrev pub decreases-setting : goal.decreases-setting
decreases-setting l = 6 * l.room + 3

abbrev pub decreases-element : goal.decreases-element
decreases-element l = 6 * l.room + 4

abbrev pub decreases-elements : goal.decreases-elements
decreases-elements l = 6 * l.room + 5

abbrev pub decreases-array : goal.decreases-array
decreases-array l = 6 * l.room + 6

abbrev pub invariant-elements-elements : goal.invariant-elements-elements
invariant-elements-elements l = InElements l.room l.fn.self l.self l.values.items

abbrev pub decreases-elements-elements : goal.decreases-elements-elements
decreases-elements-elements l = length l.self.rest.now
