use Rattle.hp_board.proofs.GroupSteps.{stays, draw_ready, look_ready, post_drawn, post_fresh, accept_ready, rerun_ready, draw_lands, look_lands, post_lands, accept_lands, rerun_lands}
use Rattle.hp_board.proofs.machine.Group.step.Goals as goal

pub returns-then-not-is_enabled : goal.returns-then-not-is_enabled
returns-then-not-is_enabled g c = stays c.args.self.now c.args.event c.is_enabled.result c.is_enabled.ensures c.if-not-is_enabled.true

pub draw-requires : goal.draw-requires
draw-requires g c = draw_ready c.args.self.now c.args.event c.is_enabled.result c.is_enabled.ensures c.if-not-is_enabled.false _ c.in-Draw.is

pub look-requires : goal.look-requires
look-requires g c = look_ready c.args.self.now c.args.event c.is_enabled.result c.is_enabled.ensures c.if-not-is_enabled.false _ _ _ c.in-Look.is

pub post-requires-clause-drawn : goal.post-requires-clause-drawn
post-requires-clause-drawn g c = post_drawn c.args.self.now c.args.event c.is_enabled.result c.is_enabled.ensures c.if-not-is_enabled.false _ _ _ c.in-Post.is

pub post-requires-clause-fresh : goal.post-requires-clause-fresh
post-requires-clause-fresh g c = post_fresh c.args.self.now c.args.event c.is_enabled.result c.is_enabled.ensures c.if-not-is_enabled.false _ _ _ c.in-Post.is

pub accept-requires : goal.accept-requires
accept-requires g c = accept_ready c.args.self.now c.args.event c.is_enabled.result c.is_enabled.ensures c.if-not-is_enabled.false _ c.in-Accept.is

pub rerun-requires : goal.rerun-requires
rerun-requires g c = rerun_ready c.args.self.now c.args.event c.is_enabled.result c.is_enabled.ensures c.if-not-is_enabled.false _ _ c.in-Rerun.is

pub returns-in-Draw : goal.returns-in-Draw
returns-in-Draw g c base changes = draw_lands c.args.self.now c.args.event c.is_enabled.result c.is_enabled.ensures c.if-not-is_enabled.false c.draw.new.self base changes _ c.in-Draw.is c.draw.ensures

pub returns-in-Look : goal.returns-in-Look
returns-in-Look g c base changes = look_lands c.args.self.now c.args.event c.is_enabled.result c.is_enabled.ensures c.if-not-is_enabled.false c.look.new.self
    base changes _ _ _ c.in-Look.is c.look.ensures

pub returns-in-Post : goal.returns-in-Post
returns-in-Post g c base changes = post_lands c.args.self.now c.args.event c.is_enabled.result c.is_enabled.ensures c.if-not-is_enabled.false c.post.new.self
    base changes _ _ _ c.in-Post.is c.post.ensures

pub returns-in-Accept : goal.returns-in-Accept
returns-in-Accept g c base changes = accept_lands c.args.self.now c.args.event c.is_enabled.result c.is_enabled.ensures c.if-not-is_enabled.false
    c.accept.new.self base changes _ c.in-Accept.is c.accept.ensures

pub returns-in-Rerun : goal.returns-in-Rerun
returns-in-Rerun g c base changes = rerun_lands c.args.self.now c.args.event c.is_enabled.result c.is_enabled.ensures c.if-not-is_enabled.false c.rerun.new.self
    base changes _ _ c.in-Rerun.is c.rerun.ensures
