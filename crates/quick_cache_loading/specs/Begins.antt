-- What a load begins with.
use Rattle.std.specs.Prelude.{⊤}
use Rattle.quick_cache_loading.specs.declared.sharing.shard.Begun.{Begun}

-- where a value was found, this is true of it
abbrev pub IfFound : {V P : Type 0} → Begun V P → (V → Type 0) → Type 0
IfFound (Begun.Found value) P = P value
IfFound (Begun.Loading placeholder) P = ⊤
