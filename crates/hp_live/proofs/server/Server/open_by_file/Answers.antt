use Rattle.std.proofs.Common.{refl}
use Rattle.hp_live.specs.Kept.{manner, declared_of}
use Rattle.hp_live.proofs.Fed.{holding}
use Rattle.hp_live.proofs.server.Server.open_by_file.Goals as goal

pub returns-in_err-reply-clause-begins : goal.returns-in_err-reply-clause-begins
returns-in_err-reply-clause-begins g c = c.reply.ensures.begins (holding (manner c.args.options (declared_of c.args.checks)) c.args.file.items)
    (record { manner_is = refl; stage_is = tt; line_is = refl })

pub returns-clause-output : goal.returns-clause-output
returns-clause-output g c = c.in_ok-reply.ensures.output (holding (manner c.args.options (declared_of c.args.checks)) c.args.file.items)
    (record { manner_is = refl; stage_is = tt; line_is = refl })

pub returns-clause-next : goal.returns-clause-next
returns-clause-next g c = c.in_ok-reply.ensures.next (holding (manner c.args.options (declared_of c.args.checks)) c.args.file.items)
    (record { manner_is = refl; stage_is = tt; line_is = refl })

pub returns-clause-begins : goal.returns-clause-begins
returns-clause-begins g c = c.reply.ensures.begins (holding (manner c.args.options (declared_of c.args.checks)) c.args.file.items)
    (record { manner_is = refl; stage_is = tt; line_is = refl })
