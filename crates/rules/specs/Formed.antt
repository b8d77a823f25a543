-- Refusal 2 told in words, clause by clause: "state not well formed: version above 31, last above 3, half above 1; gathered numbers empty, complete or
-- beyond last; live and gathered version equal; an absent table with a field not zero (the half may be either)". A holding is well formed where none of
-- these is so, and `present`, by which we hold absent and there, is 0 or 1. That the rule asks for just this is proofs/Formed.antt.
use Rattle.std.specs.Prelude.{ℕ, ◌<◌, ◌≤◌, ◌≡◌, true, false}
use Rattle.rules.specs.Steps.{holds}
use Rattle.rules.specs.declared.LiveVersion.{LiveVersion}
use Rattle.rules.specs.declared.GatheredVersion.{GatheredVersion}
use Rattle.rules.specs.declared.Holding.{Holding}

pub data FormedLive (limit : ℕ) (l : LiveVersion) : Type 0 where
  absent : l.present ≡ 0 → l.version ≡ 0 → l.last ≡ 0 → FormedLive limit l
  there : l.present ≡ 1 → l.version ≤ 31 → l.last < limit → FormedLive limit l

-- the numbers held: one at least, not all of 0 to last, and none beyond last
pub record SomeHeld (held last : ℕ) : Type 0 where
  pub one : ℕ
  pub has : holds held one ≡ true
  pub other : ℕ
  pub within : other ≤ last
  pub lacks : holds held other ≡ false
  pub none_beyond : (k : ℕ) → holds held k ≡ true → k ≤ last

pub data FormedGathered (limit : ℕ) (g : GatheredVersion) : Type 0 where
  absent : g.present ≡ 0 → g.version ≡ 0 → g.last ≡ 0 → g.held ≡ 0 → FormedGathered limit g
  there : g.present ≡ 1 → g.version ≤ 31 → g.last < limit → SomeHeld g.held g.last → FormedGathered limit g

pub record Formed (limit : ℕ) (h : Holding) : Type 0 where
  pub half : h.half ≤ 1
  pub live : FormedLive limit h.live
  pub gathered : FormedGathered limit h.gathered
  pub apart : h.live.present ≡ 1 → h.gathered.present ≡ 1 → h.gathered.version ≡ h.live.version → ⊥
