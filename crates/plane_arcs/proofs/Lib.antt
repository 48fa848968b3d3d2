pub mod RangeLaws
pub mod VectorLaws
pub mod ArcLaws
pub mod QuarterLaws
pub mod ChainLaws
