-- What is computed from the rules: the facts that hold every clause of document 01 on both sides of its border (tests/rules tries every small
-- change of the rules against them), the outputs that the paper prints, and growth.

-- ---- the clauses, floor by floor
pub mod SectionFields  -- what a section says, field by field; what the reader answers; the descriptor question
pub mod SectionOrder  -- refusals 3 and 11, and the order front to back
pub mod SectionRefusals  -- refusals 4 to 10, swept over every value and every bit
pub mod HoldingClauses  -- holding and going live; refusals 1, 2, 12, 13
pub mod TuningClauses  -- from number to tuner; refusals 16 to 21
pub mod LiveBoxes  -- the same through `tune` of live boxes; 1, 2, 14, 15, 16 in their order
pub mod PrintClauses  -- text, lines, the cutting of an input
pub mod SaidClauses  -- the paper's number, word and values for each case of an answer
pub mod NameTexts  -- request 2026-01: the text rule
pub mod NameSections  -- a section of names: its fields, and refusals 4 to 11
pub mod LabelClauses  -- the label of a channel, in its parts; where live records stand
pub mod LabelledBoxes  -- the same through `labelled` of live boxes; 1, 2 and 14 to 18 in their order
-- ---- whole outputs
pub mod Printed  -- the two that the paper prints, and the first and the last channel
pub mod PrintedLabels  -- what `labels` prints
-- ---- growth
pub mod Growths  -- what is growth
pub mod GrowthLimits  -- what is not
pub mod GrownPlant  -- the paper's line of a grown plant
-- ---- gathering, of another collector than the box
pub mod SecondCollector  -- one table, places of 4,096 bytes, its own reader
-- ---- what these share
pub mod Plants  -- sections
pub mod Sweeps  -- a clause tried on every value
