pub mod MaskBits
pub mod ColumnsOfMasks
pub mod ReplacedLane
pub mod SafeColumns
pub mod KeptFields
pub mod MembersOfLists
pub mod EachBoardOnce
pub mod CountedBoards
