-- What a session owes for a command, from what its parts did.
use Rattle.std.proofs.Common.{◌≡◌, ℕ, List, Option, Some, Vec}
use Rattle.std.specs.declared.alloc.Global.{Global}
use Rattle.quick_cache_model.specs.Hooks.{Rules, HookCall}
use Rattle.quick_cache_shard.specs.Shard.{Shard}
use Rattle.quick_cache_model.specs.declared.calls.reply.Reply.{Reply}
use Rattle.qcrun_parts.specs.declared.command.Command.{Command}
use Rattle.qcrun_parts.specs.declared.reply.Answer.{Answer}
use Rattle.qcrun_parts.specs.declared.serving.session.Outcome.{Outcome}
use Rattle.qcrun_parts.specs.declared.events.Event.{Event}
use Rattle.qcrun_parts.specs.Answers.{answer_of}
use Rattle.qcrun_parts.specs.Events.{LeavesByKind, TellsOf}
use Rattle.qcrun_parts.specs.Served.{ServesAsked}
use Rattle.qcrun_parts.specs.Sessions.{ServesCommand}

module _ {We B L A : Type 0} (rules : Shard ℕ ℕ We B L → Rules ℕ ℕ) where
  -- the call of a command was made, and the cache goes by what it went by
  pub ServesCommand-call : (old : Option (Shard ℕ ℕ We B L)) (command : Command) (answer : Answer)
      (cache new : Shard ℕ ℕ We B L) (reply : Reply ℕ ℕ Global)
      (hook_calls : List (HookCall ℕ ℕ)) (events : Option (Vec Event A))
      → old ≡ Some cache → answer ≡ answer_of reply
      → new ≡ record cache { state = new.state; places = new.places; room = new.room; work = new.work }
      → ServesAsked (rules cache) cache.state command reply hook_calls new.state
      → LeavesByKind hook_calls × TellsOf hook_calls events
      → ServesCommand rules old command (Outcome.Answered events answer) (Some new)
  ServesCommand-call old command answer cache new reply hook_calls events stood told same serves
      tells =
      rw stood (rw told (ServesCommand.makes_call cache new command reply hook_calls events same
      serves tells.0 tells.1))
