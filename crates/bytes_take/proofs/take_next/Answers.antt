-- The next event in turn, and those after it.
use mathlib.Core.Path.{refl, sym, ap, ◌∙◌}
use Rattle.interface_display.specs.declared.Display.{Display}
use Rattle.desk_follower.specs.Held.{greatest, above}
use Rattle.desk_follower.specs.Follower.{showing}
use Rattle.bytes_groups.proofs.Places.{sets_all}
use Rattle.bytes_follower_image.specs.Image.{lost_bytes, follower_bytes}
use Rattle.bytes_follower_image.proofs.OneImage.{fits}
use Rattle.bytes_take.specs.Turned.{turned, outcome}
use Rattle.bytes_take.proofs.Turns.{event-turned, event-lost}
use Rattle.bytes_take.proofs.take_next.Goals as goal

pub returns-then-e-ne0 : goal.returns-then-e-ne0
returns-then-e-ne0 c = λ h i.
    let x = c.args in
    let b = x.image.now in
    let p = c.requires in
    let w = (fits (showing x.s h) i.fits).formed.1 in
    let f = c.greatest-floor.ensures x.s h i refl in
    c.write_lost.ensures
    ∙ (sets_all (lost_bytes c.greatest-floor.result) b (sym c.told-image)
    ∙ (ap lost_bytes f ∙ sym (ap follower_bytes (event-lost x.s h w x.e p c.if-e-ne0.true))))

pub returns : goal.returns
returns c = λ h i.
    let x = c.args in
    let p = c.requires in
    let m = x.e.number in
    let w = (fits (showing x.s h) i.fits).formed.1 in
    c.advance.ensures h i
    ∙ (ap (λ (d : Display). follower_bytes (outcome (greatest m 8 h) (turned 8 m d h) m (above m 8 h))) c.apply-display.ensures
    ∙ sym (ap follower_bytes (event-turned x.s h w x.e p c.if-e-ne0.false)))
