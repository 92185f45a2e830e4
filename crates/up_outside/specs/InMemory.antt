-- What contracts see of the outsides in memory, and which of their calls fail.
use Rattle.std.specs.Prelude.{ℕ, ◌+◌, ◌-◌, ◌^◌, ◌==◌, ◌&&◌, ◌||◌, Bool, List, length, min, nat_lt, nat_le}
use Rattle.std.specs.List.{list_any}

-- a source: the bytes not yet read, the greatest number of bytes that a call gives, the numbers of the calls that
-- are to fail, how many calls it has room for, how many it had, and how many failed
pub record Feed : Type 0 where
  pub left : List ℕ
  pub most : ℕ
  pub fail : List ℕ
  pub room : ℕ
  pub calls : ℕ
  pub faults : ℕ

-- a sink: the bytes that it took, the greatest number of bytes that a call takes, the numbers of the calls that
-- are to fail, how many bytes it has room for in all, how many calls it had, and how many failed
pub record Tray : Type 0 where
  pub written : List ℕ
  pub most : ℕ
  pub fail : List ℕ
  pub room : ℕ
  pub calls : ℕ
  pub faults : ℕ

-- one more, where the counter isn't full
abbrev pub counted : ℕ → ℕ
counted n = min (n + 1) (2 ^ 64 - 1)

-- this call is among those that are to fail
abbrev pub is_listed : List ℕ → ℕ → Bool
is_listed fail call = list_any (λ number. number == call) fail

-- the next call of the source fails: it had as many as it has room for, or this one is listed
abbrev pub feed_fails : Feed → Bool
feed_fails feed = nat_le feed.room feed.calls || is_listed feed.fail (counted feed.calls)

-- the next call of the sink fails: it brings bytes and the room is full, or it is listed
abbrev pub tray_fails : Tray → List ℕ → Bool
tray_fails tray bytes =
    (nat_lt 0 (length bytes) && nat_le tray.room (length tray.written)) || is_listed tray.fail (counted tray.calls)

-- how many bytes the next call of the source gives, where it doesn't fail, to a buffer of this length
abbrev pub feed_gives : Feed → ℕ → ℕ
feed_gives feed buffer = min (min (length feed.left) buffer) feed.most

-- how many of so many bytes the next call of the sink takes, where it doesn't fail
abbrev pub tray_takes : Tray → ℕ → ℕ
tray_takes tray bytes = min (min bytes (tray.room - length tray.written)) tray.most
