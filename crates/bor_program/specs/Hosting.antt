-- How a port is served.
use Rattle.bor_register.specs.declared.fault.StoreFault.{StoreFault}
use Rattle.bor_records.specs.Promises.{Meaning}
use Rattle.std.specs.Prelude.{◌≡◌, ℕ, Bool}
use Rattle.std.specs.Duration.{as_nanos}
use Rattle.bor_register.specs.Register.{Register}
use Rattle.bor_words.specs.declared.serve.Serve.{Serve}
use Rattle.bor_program.specs.declared.connections.limits.Limits.{Limits}
use Rattle.bor_program.specs.Connections.Limits.{reply_floor, reply_nanos, request_nanos}
use Rattle.bor_program.specs.Connections.Limits.{rest_nanos}
use Rattle.bor_program.specs.Connections.Serving.{Ended, IsServedOver}
use Rattle.bor_program.specs.Connections.Watching.{Act}

-- the limits of a server: ten seconds for a request, ten without a byte of the reply taken, 16,384
-- bytes of it a second, and one second for what is sent behind that
pub record AreOfServer (limits : Limits) : Type 0 where
  pub request : as_nanos limits.request ≡ request_nanos
  pub reply : as_nanos limits.reply ≡ reply_nanos
  pub floor : limits.floor ≡ reply_floor
  pub rest : as_nanos limits.rest ≡ rest_nanos

-- How a host serves ports: which listener listens on a port, and what waits for its clients, with a
-- log or without; the calls of what waits; how connections of a listener are served within limits,
-- from one state of a register to another; and how a connection may end.
pub record Hosting (M L W K : Type 0) : Type 1 where
  pub listens : M → ℕ → L → Type 0
  pub waits : M → Bool → W → Type 0
  pub does : W → Act → W → Type 0
  pub serves : K → L → Limits → ℕ → K → ℕ → Type 0
  pub ends : Ended → Type 0

abbrev pub hosting_of : {M L W K : Type 0} → (M → ℕ → L → Type 0) → (M → Bool → W → Type 0)
    → (W → Act → W → Type 0) → (K → L → Limits → ℕ → K → ℕ → Type 0) → (Ended → Type 0)
    → Hosting M L W K
hosting_of listens waits does serves ends =
    record { listens = listens; waits = waits; does = does; serves = serves; ends = ends }

-- The port that is asked for was listened on, and the connections of that listener were served, as
-- many as are asked for, within the limits of a server. What waited for its clients is the host's,
-- with a log where one is asked for. On a connection no client came only where one could not be let
-- in, or where a server may end, as the calls of what waited came out.
pub record IsHosted {M L W K Left : Type 0} (meaning : Meaning K Register Left StoreFault)
    (hosting : Hosting M L W K) (asked : Serve) (opened left : K) (status : ℕ) : Type 0 where
  pub host : M
  pub listener : L
  pub limits : Limits
  pub begun : W
  pub ended : W
  pub port : hosting.listens host asked.port listener
  pub waiter : hosting.waits host asked.log begun
  pub is_within : AreOfServer limits
  pub within : hosting.serves opened listener limits asked.connections left status
  pub served : IsServedOver meaning hosting.ends
      (record { does = hosting.does; begun = begun; ended = ended })
      limits opened left asked.connections status
