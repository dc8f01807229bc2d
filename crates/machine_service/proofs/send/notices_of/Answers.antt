-- Each notice is pushed in its turn.
use Rattle.std.proofs.Common.{ap, ◌∙◌}
use Rattle.interface_display.specs.declared.notices.Notices as display
use Rattle.machine_service.specs.Send.{push_provider, push_disconnected, push_connected, push_unconstrained}
use Rattle.machine_service.proofs.Pushed.{provider, disconnected, connected, unconstrained}
use Rattle.machine_service.proofs.send.notices_of.Goals as goal

pub returns : goal.returns
returns c =
    let n = c.args.notices in
    let p = c.push_told.ensures ∙ provider _ n.provider _ c.map.ensures.cases in
    let d = c.push_told-2.ensures ∙ disconnected _ n.disconnected _ c.map-2.ensures.cases in
    let a = c.push_told-3.ensures ∙ connected _ n.connected _ c.map-3.ensures.cases in
    let u = c.push_told-4.ensures ∙ unconstrained _ n.unconstrained _ c.map-4.ensures.cases in
    u
    ∙ ap (λ (l : display.Notices). push_unconstrained l n.unconstrained) (a
    ∙ ap (λ (l : display.Notices). push_connected l n.connected) (d
    ∙ ap (λ (l : display.Notices). push_disconnected l n.disconnected) (p
    ∙ ap (λ (l : display.Notices). push_provider l n.provider) c.new-list.ensures)))
