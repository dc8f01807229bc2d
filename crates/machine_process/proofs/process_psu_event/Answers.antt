-- A default is no reason.
use Rattle.std.proofs.Common.{◌≡◌, ap, ◌∙◌}
use Rattle.abstract_policy.specs.Interaction.{no_reason}
use Rattle.power_policy_interface.specs.declared.capability.DisconnectFlags.{DisconnectFlags}
use Rattle.machine_update.specs.Update.{update_of}
use Rattle.machine_process.proofs.process_psu_event.Goals as goal

pub returns-in-UpdatedConsumerCapability : goal.returns-in-UpdatedConsumerCapability
returns-in-UpdatedConsumerCapability c =
    let a = c.args in
    let e : c.default.result ≡ no_reason = λ i. record { reason = c.default.ensures i } in
    rw c.in-UpdatedConsumerCapability.is
    (c.update_current_consumer.ensures ∙ ap (λ (f : DisconnectFlags). update_of a.present.now.registration a.memory f a.present.now.records) e)
