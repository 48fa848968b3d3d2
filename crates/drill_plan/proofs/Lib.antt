pub mod SetLaws
pub mod HasLaws
pub mod ToolLaws
pub mod OnePlan
pub mod ListedLaws
pub mod LimitLaws
pub mod LinePartLaws
pub mod DiameterLaws
