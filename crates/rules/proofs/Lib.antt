pub mod Refusals
pub mod Limits
-- The theorems about the rules. To read: the three conditions. What their statements say in words stands in specs/: InParts, Formed, Offering, Answered,
-- Runs, Sent, Growth, Meaning; the paper's examples below. Then the laws.

-- ---- the tender, sentence by sentence
pub mod Condition1
pub mod Condition2
pub mod Condition3
-- ---- the paper's examples and the readings of its open places, computed
pub mod Examples  -- C1 to C13, one fact
pub mod Readings  -- the readings of docs/DECISIONS.md, part 1
pub mod Promise  -- an example that meets the conditions of `goes_live`
pub mod Hex  -- bytes as the paper writes them
pub mod Computed  -- every definition of the rules, opened
-- ---- reading a section
pub mod InParts  -- what a section that reads right says, piece by piece
pub mod Asking  -- the descriptor question
pub mod Right  -- what a section that reads right has passed and is made of
pub mod Taken  -- taking apart what was got
pub mod Truths  -- tests that hold or do not
pub mod Closing  -- the closing list
pub mod Places  -- where in a section its parts stand
pub mod Numbers  -- which numbers a refusal can have
-- ---- holding and going live
pub mod Offering  -- an offer answers what is told, and nothing else
pub mod Gathers  -- all that is promised of gathering, of every lawful collector
pub mod Offers  -- what an offer leaves as it was, and what its answer tells
pub mod Kept  -- the store after an offer
pub mod Placed  -- what stands in the places after an offer
pub mod LiveRecords  -- the live records of the other tables stay
pub mod GoingLive  -- sections 0 to last, in any order
pub mod Faithful  -- what the state says of the store is so
pub mod Sent  -- every live section is a section of the run
pub mod SentOnce  -- and of one place in it
pub mod Steps  -- steps 2 to 6, on one table
pub mod Formed  -- a holding that is well formed
pub mod Lawful  -- what is asked of a collector
pub mod States  -- the box is one: the tables of a state
pub mod Held  -- the numbers held, as bits
pub mod Store  -- places, and bytes put into them
-- ---- from number to tuner
pub mod Answered  -- tuning answers what is told, and nothing else
pub mod Tunes  -- so does a channel record, and a search
pub mod Reach  -- no frequency outside the tuner's reach
pub mod Labels  -- the label question answers what is told, and nothing else
pub mod ButNames  -- tuning needs no names
pub mod LivePlaces  -- refusals 15 and 16, as they are told
pub mod Standing  -- where records stand, and the label
pub mod LiveReads  -- a fresh box never comes to 16
pub mod Screen  -- what is tuned and printed was sent
pub mod Lowest  -- the lowest section first
pub mod Firsts  -- the first that has a property
pub mod Search  -- the one fact that the four searches share
-- ---- growth, and other runs that come to the same
pub mod SameRuns  -- growth, and what stood in the store, change nothing
pub mod TunesAlike  -- two boxes alike tune alike
pub mod Alike  -- two boxes of a collector that answer alike
pub mod Grown  -- a grown section reads as it did
pub mod Again  -- several growths are one
pub mod Parted  -- a section that reads right, in its parts
pub mod GrownAsking  -- the descriptor question under growth
pub mod Encoded  -- descriptors and records as bytes
-- ---- the input of the line-up, and what a promise decides
pub mod Pieces  -- an input read in pieces
pub mod Decimal  -- a printed number is its number
pub mod Told  -- an answer in the paper's terms
pub mod Determined  -- two outcomes that a promise allows are equal
