pub mod FeedToSink
pub mod Lines
pub mod LinesUnderWay
pub mod Streams
pub mod StreamUnderWay
