-- What a command does to the cache that stands, and what became of it.
use Rattle.std.specs.Prelude.{◌≡◌, ℕ, List, [], Option, Some, None, Vec}
use Rattle.std.specs.declared.alloc.Global.{Global}
use Rattle.quick_cache_model.specs.declared.refusal.Refusal.{Refusal}
use Rattle.quick_cache_model.specs.CacheState.{CacheState, empty_state}
use Rattle.quick_cache_model.specs.Hooks.{Rules, HookCall}
use Rattle.quick_cache_model.specs.Sizes.{hot_target_of, ghost_limit_of}
use Rattle.quick_cache_options.specs.Options.{Choices, Settings, no_choices, settings_of, first_error}
use Rattle.quick_cache_shard.specs.Shard.{Shard}
use Rattle.quick_cache_model.specs.declared.calls.reply.Reply.{Reply}
use Rattle.qcrun_parts.specs.declared.command.Command.{Command}
use Rattle.qcrun_parts.specs.declared.reply.Answer.{Answer}
use Rattle.qcrun_parts.specs.declared.serving.session.Outcome.{Outcome}
use Rattle.qcrun_parts.specs.declared.events.Event.{Event}
use Rattle.qcrun_parts.specs.Answers.{answer_of}
use Rattle.qcrun_parts.specs.Events.{LeavesByKind, TellsOf}
use Rattle.qcrun_parts.specs.Served.{ServesAsked}
use Rattle.qcrun_parts.specs.Still.{AreStill}

-- the numbers that the cache of a command is to be made with, if it asks for a new one; shares and
-- a greatest mark that it does not tell are not set
abbrev pub choices_of : Command → Option Choices
choices_of (Command.Cache items weight) = Some (record no_choices {
  estimated_items_capacity = Some items;
  weight_capacity = Some weight;
})
choices_of (Command.CacheWithShares items weight hot ghosts) = Some (record no_choices {
  estimated_items_capacity = Some items;
  weight_capacity = Some weight;
  hot_allocation = Some hot;
  ghost_allocation = Some ghosts;
})
choices_of (Command.CacheWithMark items weight hot ghosts mark) = Some (record no_choices {
  estimated_items_capacity = Some items;
  weight_capacity = Some weight;
  hot_allocation = Some hot;
  ghost_allocation = Some ghosts;
  mark_cut = Some mark;
})
choices_of _ = None

-- an empty cache of these sizes and shares, and of this greatest mark
abbrev pub new_state : Settings → CacheState ℕ ℕ
new_state settings = record (empty_state settings.weight_capacity
    (hot_target_of settings.weight_capacity settings.hot_allocation)
    (ghost_limit_of settings.estimated_items_capacity settings.ghost_allocation)) {
      mark_cut = settings.mark_cut;
    }

module _ {We B L : Type 0} where
  -- An empty cache stands in the place of the old one, or there was no memory and the old one
  -- stands. Where a number is out of range the first fault is told, and no cache stands.
  pub data MakesCache (choices : Choices) (old : Option (Shard ℕ ℕ We B L))
      : Answer → Option (Shard ℕ ℕ We B L) → Type 0 where
    makes : (cache : Shard ℕ ℕ We B L) → first_error choices ≡ None
        → cache.state ≡ new_state (settings_of choices)
        → MakesCache choices old Answer.Done (Some cache)
    lacks_memory : first_error choices ≡ None
        → MakesCache choices old (Answer.Refused Refusal.Memory) old
    has_fault : (text : List ℕ) → first_error choices ≡ Some text
        → MakesCache choices old (Answer.Fault text) None

module _ {A : Type 0} where
  -- What becomes of `show`: the items of weight 0 are put in order, or there was no memory for
  -- that.
  pub data ShowsCache (state : CacheState ℕ ℕ) : Outcome A → Type 0 where
    shows : (still : Vec (ℕ × ℕ) A) → AreStill state still.items
        → ShowsCache state (Outcome.Shows still)
    lacks_memory : (events : Option (Vec Event A)) → TellsOf [] events
        → ShowsCache state (Outcome.Answered events (Answer.Refused Refusal.Memory))

module _ {We B L A : Type 0} where
  -- The cache that stood, the command, what became of it, and the cache that stands. The events are
  -- those of the hook calls, each of which leaves a value what its kind has left.
  pub data ServesCommand (rules : Shard ℕ ℕ We B L → Rules ℕ ℕ)
      : Option (Shard ℕ ℕ We B L) → Command → Outcome A → Option (Shard ℕ ℕ We B L) → Type 0 where
    makes_cache : (choices : Choices) (old new : Option (Shard ℕ ℕ We B L)) (command : Command)
        (answer : Answer) (events : Option (Vec Event A)) → choices_of command ≡ Some choices
        → MakesCache choices old answer new → TellsOf [] events
        → ServesCommand rules old command (Outcome.Answered events answer) new
    makes_call : (cache new : Shard ℕ ℕ We B L) (command : Command)
        (reply : Reply ℕ ℕ Global) (hook_calls : List (HookCall ℕ ℕ)) (events : Option (Vec Event A))
        → new ≡ record cache { state = new.state; places = new.places; room = new.room; work = new.work }
        → ServesAsked (rules cache) cache.state command reply hook_calls new.state
        → LeavesByKind hook_calls → TellsOf hook_calls events
        → ServesCommand rules (Some cache) command (Outcome.Answered events (answer_of reply))
        (Some new)
    shows_cache : (cache : Shard ℕ ℕ We B L) (outcome : Outcome A) → ShowsCache cache.state outcome
        → ServesCommand rules (Some cache) Command.Show outcome (Some cache)
    lacks_cache : (command : Command) → choices_of command ≡ None
        → ServesCommand rules None command Outcome.NoCache None
