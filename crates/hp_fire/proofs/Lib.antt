mod Adding
mod Attempts
mod Coming
mod Decisions
mod Helping
mod OneOrigin
pub mod Sending
mod Making
mod Posted
mod Immediate
mod Starting
mod Stating
mod Steps
mod Trees
