use Rattle.hp_live.proofs.server.open_by.Goals as goal

pub returns : goal.returns
returns g c =
    let stands = c.in_ok-base.ensures in
    record { text_is = c.in_ok-text.ensures.text _ stands; stage_is = c.in_ok-text.ensures.state _ stands }
