pub mod PageLooks
pub mod AccessReplies
pub mod RangeLoops
pub mod OnePageEnds
pub mod LackingRuns
pub mod Retries
