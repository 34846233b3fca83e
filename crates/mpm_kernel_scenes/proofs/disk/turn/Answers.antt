use Rattle.std.proofs.Common.{ap, subst}
use Rattle.mpm_service.specs.declared.service.Turn.{Turn}
use Rattle.mpm_service.specs.Disk.{IsAfter}
use Rattle.mpm_kernel.specs.Kernel.{Kernel}
use Rattle.mpm_kernel_scenes.proofs.ServingLaws.{serves_same, serves_turned, serves_begun, steps_turned}
use Rattle.mpm_kernel_scenes.proofs.disk.turn.Goals as goal

pub turn_disk-turn-requires : goal.turn_disk-turn-requires
turn_disk-turn-requires c = record { sound = c.requires.serves.sound; begun = c.requires.serves.begun }

pub returns-then-last : goal.returns-then-last
returns-then-last c =
    let middle = c.turn_disk-turn.new.self in
    let after = subst (λ (t : Turn). IsAfter t middle.disk) c.in-Work.is c.turn_disk-turn.ensures.after in
    let turned = serves_turned c.args.kernel.now middle c.requires.serves c.turn_disk-turn.ensures.sound c.turn_disk-turn.ensures.kernel after in
    serves_same middle _ turned c.end_disk_call.ensures.sound (ap (λ (k : Kernel). k.disk) c.end_disk_call.ensures.kernel)

pub returns-else-last : goal.returns-else-last
returns-else-last c =
    let middle = c.turn_disk-turn.new.self in
    let after = subst (λ (t : Turn). IsAfter t middle.disk) c.in-Work.is c.turn_disk-turn.ensures.after in
    serves_turned c.args.kernel.now middle c.requires.serves c.turn_disk-turn.ensures.sound c.turn_disk-turn.ensures.kernel after

pub returns-in-Starts : goal.returns-in-Starts
returns-in-Starts c =
    let middle = c.turn_disk-turn.new.self in
    serves_begun c.args.turns middle _ (steps_turned c.args.kernel.now middle c.requires.serves c.turn_disk-turn.ensures.kernel) c.begin_disk_call.ensures.sound c.begin_disk_call.ensures.kernel c.begin_disk_call.ensures.begun

pub returns-in-Idle : goal.returns-in-Idle
returns-in-Idle c =
    let middle = c.turn_disk-turn.new.self in
    let after = subst (λ (t : Turn). IsAfter t middle.disk) c.in-Idle.is c.turn_disk-turn.ensures.after in
    serves_turned c.args.kernel.now middle c.requires.serves c.turn_disk-turn.ensures.sound c.turn_disk-turn.ensures.kernel after

pub returns-in-Passing : goal.returns-in-Passing
returns-in-Passing c =
    let middle = c.turn_disk-turn.new.self in
    let after = subst (λ (t : Turn). IsAfter t middle.disk) c.in-Passing.is c.turn_disk-turn.ensures.after in
    serves_turned c.args.kernel.now middle c.requires.serves c.turn_disk-turn.ensures.sound c.turn_disk-turn.ensures.kernel after
